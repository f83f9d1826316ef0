-- Rising columns: where a column stands among those that a level keeps, and how a level takes them over.
use Rattle.std.proofs.Common.{◌≡◌, ℕ, zero, suc, ◌+◌, ◌-◌, ◌<◌, ◌≤◌, cond, ltb, ap, subst, ⊎_elim, arith}
use Rattle.std.proofs.lemmas.Bool.{cond-true, cond-false, lt-ltb, le-ltb, cases_lt}
use Rattle.search.specs.Grid.{Grid, Stack, Holds}

module _ (st : ℕ → ℕ) (count : ℕ) (up : (j : ℕ) → j + 1 < count → st j < st (j + 1)) where
  rises_by : (d i : ℕ) → i + d + 1 < count → st i < st (i + d + 1)
  rises_by zero i h = let e : i + 1 ≡ i + 0 + 1 = omega arith in subst (λ k. st i < st k) e (up i (omega arith))
  rises_by (suc d) i h =
      let e : i + d + 1 + 1 ≡ i + suc d + 1 = omega arith in
      let a = rises_by d i (omega arith) in
      let b : st (i + d + 1) < st (i + d + 1 + 1) = up (i + d + 1) (omega arith) in
      let c : st i < st (i + d + 1 + 1) = omega arith in
      subst (λ k. st i < st k) e c

  pub rises : (i j : ℕ) → i < j → j < count → st i < st j
  rises i j l h = let e : i + (j - i - 1) + 1 ≡ j = omega arith in subst (λ k. st i < st k) e (rises_by (j - i - 1) i (omega arith))

  pub not_falling : (i j : ℕ) → i ≤ j → j < count → st i ≤ st j
  not_falling i j l lt = ⊎_elim (λ (a : i < j). let r = rises i j a lt in omega arith) (λ (b : j ≤ i). let e : i ≡ j = omega arith in let z = ap st e in omega arith) (cases_lt i j)

  -- the places stand in the order of their columns
  pub place_le : (i j : ℕ) → i < count → j < count → st i ≤ st j → i ≤ j
  place_le i j ic jc l = ⊎_elim (λ (a : j < i). let r = rises j i a ic in absurd (omega arith)) (λ (b : i ≤ j). b) (cases_lt j i)

  pub place_lt : (i j : ℕ) → i < count → j < count → st i < st j → i < j
  place_lt i j ic jc l = ⊎_elim (λ (a : i < j). a) (λ (b : j ≤ i). let r = not_falling j i b ic in absurd (omega arith)) (cases_lt i j)

-- the column at place p, or `end` where p is past the last
abbrev pub upto : (ℕ → ℕ) → ℕ → ℕ → ℕ → ℕ
upto st end count p = cond (ltb p count) (st p) end

pub upto_in : (st : ℕ → ℕ) (end count p : ℕ) → p < count → upto st end count p ≡ st p
upto_in st end count p h = cond-true (ltb p count) (st p) end (lt-ltb p count h)

pub upto_end : (st : ℕ → ℕ) (end count p : ℕ) → count ≤ p → upto st end count p ≡ end
upto_end st end count p h = cond-false (ltb p count) (st p) end (le-ltb p count h)

-- a reduction of the columns that a list holds: between one of them and the next there is no answer
module _ {E : Type 0} (G : Grid E) (st : ℕ → ℕ) (count : ℕ) (h : Holds G st count) (ss : ℕ → ℕ) where
  upto_inside : (p : ℕ) → upto st (G.first + G.columns) count p ≤ G.first + G.columns
  upto_inside p = ⊎_elim
      (λ (l : p < count). let u = upto_in st (G.first + G.columns) count p l in let w = (h.within p l).high in omega arith)
      (λ (g : count ≤ p). let u = upto_end st (G.first + G.columns) count p g in omega arith)
      (cases_lt p count)

  pub first_offered : Stack G ss 0 (upto st (G.first + G.columns) count 0)
  first_offered = record {
    fits = omega arith;
    inside = upto_inside 0;
    rising = λ j l. absurd (omega arith);
    low = λ j l. absurd (omega arith);
    below = λ j l. absurd (omega arith);
    loses = λ j l. absurd (omega arith);
    kept = λ i c l a cl.
        let w = h.kept i c l a in
        let wl = w.1 in
        let we = w.2 in
        let u = upto_in st (G.first + G.columns) count 0 (omega arith) in
        let r = not_falling st count h.rising 0 w.0 (omega arith) wl in
        absurd (omega arith);
  }

  pub next_offered : (len p : ℕ) → p < count → Stack G ss len (st p + 1) → Stack G ss len (upto st (G.first + G.columns) count (p + 1))
  next_offered len p lt s =
      let up : st p < upto st (G.first + G.columns) count (p + 1) = ⊎_elim
      (λ (a : p + 1 < count). let u = upto_in st (G.first + G.columns) count (p + 1) a in let r = h.rising p a in omega arith)
      (λ (b : count ≤ p + 1). let u = upto_end st (G.first + G.columns) count (p + 1) b in let r = (h.within p lt).high in omega arith)
      (cases_lt (p + 1) count) in
      record {
        fits = s.fits;
        inside = upto_inside (p + 1);
        rising = s.rising;
        low = s.low;
        below = λ j l. let b = s.below j l in omega arith;
        loses = s.loses;
        kept = λ i c l a cl. ⊎_elim
            (λ (x : c < st p + 1). s.kept i c l a x)
            (λ (ge : st p + 1 ≤ c).
            let w = h.kept i c l a in
            let wl = w.1 in
            let we = w.2 in
            let after : p < w.0 = place_lt st count h.rising p w.0 lt wl (omega arith) in
            let u = upto_in st (G.first + G.columns) count (p + 1) (omega arith) in
            let r = not_falling st count h.rising (p + 1) w.0 (omega arith) wl in
            absurd (omega arith))
            (cases_lt c (st p + 1));
      }
