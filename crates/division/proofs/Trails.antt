-- The trail of the last cuts is the best division.
use Rattle.std.proofs.Common.{◌≡◌, ℕ, zero, suc, ◌+◌, ◌<◌, ◌≤◌, true≢false, ◌⊎◌, List, [], ◌∷◌, ◌++◌, length, sym, refl, ap, ◌∙◌, subst, inl, inr, ⊎_elim, arith, ltb-false, ltb-true}
use Rattle.std.proofs.lemmas.Bool.{cases_order}
use Rattle.search.specs.Least.{Leftmost}
use Rattle.division.specs.declared.cost.Cost.{Cost}
use Rattle.division.specs.declared.cost.Cost.TheVariants.{Number, Empty}
use Rattle.division.specs.Divisions.{Divides, Division, Least, Tally, LaterCut, Behind, Best, total}
use Rattle.division.specs.Costs.{before}
use Rattle.division.specs.Rounds.{LastCut}
use Rattle.division.specs.Trails.{Sound, trail, TrailsStand}
use Rattle.division.proofs.Snoc.{joined, total_joined, parted}
use Rattle.division.proofs.Tallies.{numbered}
use Rattle.division.proofs.Cuts.{later_snoc, later_of}

-- the lightest division of j readings into exactly k spans, at ties the one that cuts earlier
pub record Chosen (weight : ℕ → ℕ → ℕ) (k j : ℕ) (ends : List ℕ) : Type 0 where
  pub division : Division k j ends
  pub least : (others : List ℕ) → Division k j others → total weight 0 ends ≤ total weight 0 others
  pub ties : (others : List ℕ) → Division k j others → total weight 0 others ≡ total weight 0 ends → (others ≡ ends) ⊎ LaterCut ends others

nothing : (ends : List ℕ) → length ends ≡ 0 → ends ≡ []
nothing [] e = refl
nothing (x ∷ xs) e = absurd (omega arith)

chosen_none : (weight : ℕ → ℕ → ℕ) (j v : ℕ) → Least weight 0 j v → Chosen weight 0 j []
chosen_none weight j v l =
    let d = l.reached.1 in
    let e = nothing l.reached.0 d.many in
    record {
      division = subst (Division 0 j) e d;
      least = λ others o. rw (nothing others o.many) (omega arith);
      ties = λ others o same. inl (nothing others o.many);
    }

module _ (weight : ℕ → ℕ → ℕ) (k j a : ℕ) (c : LastCut weight k j a) where
  -- what stands before the last cut is lightest too
  front_least : Least weight k a (total weight 0 c.front.0)
  front_least =
      record {
        reached = (c.front.0, c.front.1, refl);
        least = λ ys d. omega (arith, c.front.2.least (ys ++ (j ∷ [])) (joined k j a ys d c.inside), total_joined weight k j a ys d);
      }

  module _ (t : List ℕ) (h : Chosen weight k a t) where
    as_light : total weight 0 t ≡ total weight 0 c.front.0
    as_light = omega (arith, h.least c.front.0 c.front.1, front_least.least t h.division)

    tie : (b : ℕ) (zs : List ℕ) → b < j → Division k b zs → total weight 0 zs + weight b j ≡ total weight 0 t + weight a j → (zs ++ (j ∷ []) ≡ t ++ (j ∷ [])) ⊎ LaterCut (t ++ (j ∷ [])) (zs ++ (j ∷ []))
    tie b zs inside d same = go (cases_order a b)
      where
        lengths : length t ≡ length zs
        lengths = h.division.many ∙ sym d.many

        leftmost : a ≤ b
        leftmost =
            let e : total weight 0 c.front.0 + weight a j ≡ total weight 0 zs + weight b j = omega (arith, as_light) in
            c.leftmost b zs inside d (subst (Least weight (suc k) j) e c.front.2)

        go : (a ≡ b) ⊎ ((a < b) ⊎ (b < a)) → (zs ++ (j ∷ []) ≡ t ++ (j ∷ [])) ⊎ LaterCut (t ++ (j ∷ [])) (zs ++ (j ∷ []))
        go (inr (inl lt)) = inr (later_snoc t zs j lengths (later_of k a b t zs h.division d lt))
        go (inl e) =
            let w : weight a j ≡ weight b j = ap (λ (x : ℕ). weight x j) e in
            ⊎_elim (λ s. inl (ap (λ (l : List ℕ). l ++ (j ∷ [])) s)) (λ s. inr (later_snoc t zs j lengths s)) (h.ties zs (subst (λ (x : ℕ). Division k x zs) (sym e) d) (omega arith))
        go (inr (inr gt)) = absurd (omega (arith, leftmost))

    chosen_more : Chosen weight (suc k) j (t ++ (j ∷ []))
    chosen_more =
        record {
          division = joined k j a t h.division c.inside;
          least = λ others d. omega (arith, total_joined weight k j a t h.division, as_light, c.front.2.least others d);
          ties = ties;
        }
      where
        ties : (others : List ℕ) → Division (suc k) j others → total weight 0 others ≡ total weight 0 (t ++ (j ∷ [])) → (others ≡ t ++ (j ∷ [])) ⊎ LaterCut (t ++ (j ∷ [])) others
        ties others d same =
            let p = parted k j others d in
            let w = total_joined weight k j p.cut p.front p.divides in
            let e : total weight 0 p.front + weight p.cut j ≡ total weight 0 t + weight a j =
            omega (arith, ap (total weight 0) p.whole, total_joined weight k j a t h.division) in
            rw p.whole (tie p.cut p.front p.inside p.divides e)

-- following last cuts gives the chosen division into exactly k spans
pub trail_chosen : (weight cut : ℕ → ℕ → ℕ) (rounds n : ℕ) → ((k j v : ℕ) → k < rounds → j ≤ n → Least weight (suc k) j v → LastCut weight k j (cut (suc k) j)) → (k j v : ℕ) → k ≤ rounds → j ≤ n → Least weight k j v → Chosen weight k j (trail cut k j)
trail_chosen weight cut rounds n cuts zero j v h g l = chosen_none weight j v l
trail_chosen weight cut rounds n cuts (suc k) j v h g l =
    let c = cuts k j v (omega arith) g l in
    chosen_more weight k j (cut (suc k) j) c (trail cut k (cut (suc k) j)) (trail_chosen weight cut rounds n cuts k (cut (suc k) j) (total weight 0 c.front.0) (omega arith) (omega (arith, c.inside)) (front_least weight k j (cut (suc k) j) c))

module _ (weight : ℕ → ℕ → ℕ) (tally : ℕ → ℕ → Cost) (cut : ℕ → ℕ → ℕ) (rounds n k s : ℕ)
    (sound : Sound weight tally cut rounds n) (some : 0 < n) (room : k ≤ rounds) (most : Leftmost before (λ q. tally q n) 1 k s) where
  last_cut : (q j v : ℕ) → q < rounds → j ≤ n → Least weight (suc q) j v → LastCut weight q j (cut (suc q) j)
  last_cut q j v h g l =
      let u = numbered weight (suc q) j (tally (suc q) j) (sound.tallied (suc q) j h g) l.reached.0 l.reached.1 in
      sound.cuts q j u.0 h g u.1

  -- the readings can be left whole
  one : Division 1 n (n ∷ [])
  one = record { divides = (some, refl); many = refl }

  number : (v : ℕ) × (tally s n ≡ Number v)
  number = go (tally s n) refl
    where
      go : (t : Cost) → tally s n ≡ t → (v : ℕ) × (tally s n ≡ Number v)
      go (Number v) e = (v, e)
      go Empty e =
          let u = numbered weight 1 n (tally 1 n) (sound.tallied 1 n (omega (arith, most.low, most.high)) (omega arith)) (n ∷ []) one in
          let f = most.least 1 (omega arith) (omega (arith, most.low, most.high)) in
          absurd (true≢false (rw (u.1, e) at f))

  lightest : Least weight s n number.0
  lightest = subst (Tally weight s n) number.1 (sound.tallied s n (omega (arith, most.high)) (omega arith))

  chosen : Chosen weight s n (trail cut s n)
  chosen = trail_chosen weight cut rounds n last_cut s n number.0 (omega (arith, most.high)) (omega arith) lightest

  weighs : total weight 0 (trail cut s n) ≡ number.0
  weighs =
      omega (arith, chosen.least lightest.reached.0 lightest.reached.1, lightest.reached.2, lightest.least (trail cut s n) chosen.division)

  -- another division into q spans weighs no less, and more where q is less
  other : (q : ℕ) (others : List ℕ) → 0 < q → q ≤ k → Division q n others → (number.0 ≤ total weight 0 others) × (q < s → number.0 < total weight 0 others)
  other q others some h d =
      let u = numbered weight q n (tally q n) (sound.tallied q n (omega arith) (omega arith)) others d in
      let f = most.least q some (omega arith) in
      let b = ltb-false u.0 number.0 (rw (u.1, number.1) at f) in
      (omega (arith, u.2, b), λ g. let i = most.leftmost q some g in omega (arith, u.2, ltb-true number.0 u.0 (rw (number.1, u.1) at i)))

  least : (others : List ℕ) → Divides 0 others n → length others ≤ k → total weight 0 (trail cut s n) ≤ total weight 0 others
  least [] d h = absurd (omega arith)
  least (x ∷ xs) d h = omega (arith, weighs, (other (suc (length xs)) (x ∷ xs) (omega arith) (omega arith) (record { divides = d; many = refl })).0)

  ties : (others : List ℕ) → Divides 0 others n → length others ≤ k → total weight 0 others ≡ total weight 0 (trail cut s n) → (others ≡ trail cut s n) ⊎ Behind (trail cut s n) others
  ties [] d h e = absurd (omega arith)
  ties (x ∷ xs) d h e = go (cases_order (suc (length xs)) s)
    where
      division : Division (suc (length xs)) n (x ∷ xs)
      division = record { divides = d; many = refl }

      go : (suc (length xs) ≡ s) ⊎ ((suc (length xs) < s) ⊎ (s < suc (length xs))) → (x ∷ xs ≡ trail cut s n) ⊎ Behind (trail cut s n) (x ∷ xs)
      go (inr (inl g)) = absurd (omega (arith, weighs, (other (suc (length xs)) (x ∷ xs) (omega arith) (omega arith) division).1 g))
      go (inl g) =
          ⊎_elim (λ i. inl i) (λ i. inr (inr (omega (arith, chosen.division.many), i))) (chosen.ties (x ∷ xs) (subst (λ (q : ℕ). Division q n (x ∷ xs)) g division) e)
      go (inr (inr g)) = inr (inl (omega (arith, chosen.division.many)))

  best : Best weight n k (trail cut s n)
  best = record { divides = chosen.division.divides; few = omega (arith, chosen.division.many, most.high); least = least; ties = ties }

pub trails_stand : TrailsStand
trails_stand weight tally cut rounds n k s sound some room most =
    (best weight tally cut rounds n k s sound some room most, (number weight tally cut rounds n k s sound some room most).1 ∙ ap Number (sym (weighs weight tally cut rounds n k s sound some room most)))
