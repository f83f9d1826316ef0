-- The reduction: what a grid's answers allow to be thrown away. The three moves of a reduction are `pop`, `push` and `pass`.
use Rattle.std.proofs.Common.{◌≡◌, ℕ, ◌+◌, ◌-◌, ◌<◌, ◌≤◌, true, false, sym, ap, ◌∙◌, subst, ⊎_elim, arith}
use Rattle.std.proofs.lemmas.Bool.{both_ways, cases_Bool, cases_lt}
use Rattle.search.specs.Grid.{Grid, Answer, Column, Stack, Holds, Keeps}
use Rattle.search.proofs.Least.{WeakOrder, leftmost_exists, leftmost_same}

-- the order is a strict weak one, and the grid is totally monotone
pub record Lawful {E : Type 0} (G : Grid E) : Type 0 where
  pub order : WeakOrder G.before
  pub monotone : (i j a b : ℕ) → i < j → j < G.rows → Column G b → a < b → G.before (G.entry i b) (G.entry i a) ≡ true → G.before (G.entry j b) (G.entry j a) ≡ true

module _ {E : Type 0} {G : Grid E} (lawful : Lawful G) where
  -- a column that beats one on its left does so from there on down
  wins_below : (i j a b : ℕ) → i ≤ j → j < G.rows → Column G b → a < b → G.before (G.entry i b) (G.entry i a) ≡ true → G.before (G.entry j b) (G.entry j a) ≡ true
  wins_below i j a b le lt col ab t = ⊎_elim (λ l. lawful.monotone i j a b l lt col ab t) (λ ge. let e : i ≡ j = omega arith in subst (λ k. G.before (G.entry k b) (G.entry k a) ≡ true) e t) (cases_lt i j)

  -- and one that loses has lost in every row above
  lost_above : (i j a b : ℕ) → i ≤ j → j < G.rows → Column G b → a < b → G.before (G.entry j b) (G.entry j a) ≡ false → G.before (G.entry i b) (G.entry i a) ≡ false
  lost_above i j a b le lt col ab f = ⊎_elim (λ t. absurd (both_ways _ f (wins_below i j a b le lt col ab t))) (λ e. e) (cases_Bool (G.before (G.entry i b) (G.entry i a)))

  -- the answer of a row loses to no column, and beats each on its left
  beaten : (i c x : ℕ) → Answer G i c → Column G x → G.before (G.entry i x) (G.entry i c) ≡ true → ⊥
  beaten i c x l col t = both_ways _ (l.least x col.low col.high) t

  matched : (i c a : ℕ) → Answer G i c → G.first ≤ a → a < c → G.before (G.entry i c) (G.entry i a) ≡ false → ⊥
  matched i c a l low ac f = both_ways _ f (l.leftmost a low ac)

  pub some_answer : (i : ℕ) → 0 < G.columns → (c : ℕ) × Answer G i c
  some_answer i pos = leftmost_exists lawful.order (G.entry i) G.first G.columns pos

  -- the answers do not fall from row to row
  pub answers_rise : (i j a b : ℕ) → i < j → j < G.rows → Answer G i a → Answer G j b → a ≤ b
  answers_rise i j a b ij jn la lb = ⊎_elim
      (λ (l : b < a). absurd (beaten j b a lb (record { low = la.low; high = la.high }) (lawful.monotone i j b a ij jn (record { low = la.low; high = la.high }) l (la.leftmost b lb.low l))))
      (λ (g : a ≤ b). g)
      (cases_lt b a)

  module _ (st : ℕ → ℕ) where
    -- the topmost column, at place t, is beaten in row t by the next one: no row has it for its answer
    no_answer : (t x i : ℕ) → Stack G st (t + 1) x → Column G x → G.before (G.entry t x) (G.entry t (st t)) ≡ true → i < G.rows → Answer G i (st t) → ⊥
    no_answer t x i s col win lt l =
        let f = s.fits in
        let hi = s.inside in
        let below : st t < x = s.below t (omega arith) in
        let there : Column G (st t) = record { low = s.low t (omega arith); high = omega arith } in
        ⊎_elim
        (λ (il : i < t).
        let p : (t - 1) + 1 ≡ t = omega arith in
        let up : st (t - 1) < st t = subst (λ k. st (t - 1) < st k) p (s.rising (t - 1) (omega arith)) in
        let lost = subst (λ k. G.before (G.entry (t - 1) (st k)) (G.entry (t - 1) (st (t - 1))) ≡ false) p (s.loses (t - 1) (omega arith)) in
        matched i (st t) (st (t - 1)) l (s.low (t - 1) (omega arith)) up (lost_above i (t - 1) (st (t - 1)) (st t) (omega arith) (omega arith) there up lost))
        (λ (ge : t ≤ i). beaten i (st t) x l col (wins_below t i (st t) x ge lt col below win))
        (cases_lt i t)

    pop : (t x : ℕ) → Stack G st (t + 1) x → Column G x → G.before (G.entry t x) (G.entry t (st t)) ≡ true → Stack G st t x
    pop t x s col win = record {
      fits = let f = s.fits in omega arith;
      inside = s.inside;
      rising = λ j lt. s.rising j (omega arith);
      low = λ j lt. s.low j (omega arith);
      below = λ j lt. s.below j (omega arith);
      loses = λ j lt. s.loses j (omega arith);
      kept = λ i c lt l cx.
          let k = s.kept i c lt l cx in
          ⊎_elim
          (λ (jl : k.0 < t). (k.0, jl, k.2))
          (λ (ge : t ≤ k.0).
          let kl = k.1 in
          let e : k.0 ≡ t = omega arith in
          absurd (no_answer t x i s col win lt (subst (λ c. Answer G i c) (sym k.2 ∙ ap st e) l)))
          (cases_lt k.0 t);
    }

    pub pop_top : (top x : ℕ) → 0 < top → Stack G st top x → Column G x → G.before (G.entry (top - 1) x) (G.entry (top - 1) (st (top - 1))) ≡ true → Stack G st (top - 1) x
    pop_top top x some s col win = let e : top ≡ (top - 1) + 1 = omega arith in pop (top - 1) x (subst (λ k. Stack G st k x) e s) col win

    -- there is room for the next column
    pub push : (t x : ℕ) → Stack G st t x → Column G x → t < G.rows → (0 < t → G.before (G.entry (t - 1) x) (G.entry (t - 1) (st (t - 1))) ≡ false) → (st' : ℕ → ℕ) → ((j : ℕ) → j < t → st' j ≡ st j) → st' t ≡ x → Stack G st' (t + 1) (x + 1)
    push t x s col room lost st' old new =
        let top : (j : ℕ) → t ≤ j → j < t + 1 → st' j ≡ x = λ j ge lt. let e : t ≡ j = omega arith in subst (λ k. st' k ≡ x) e new in
        let next : (j : ℕ) → t ≤ j + 1 → j + 1 < t + 1 → j ≡ t - 1 = λ j ge lt. omega arith in
        record {
          fits = omega arith;
          inside = let h = col.high in omega arith;
          rising = λ j lt. ⊎_elim
              (λ (l : j + 1 < t). rw (old j (omega arith), old (j + 1) l) (s.rising j l))
              (λ (ge : t ≤ j + 1). rw (old j (omega arith), top (j + 1) ge lt) (s.below j (omega arith)))
              (cases_lt (j + 1) t);
          low = λ j lt. ⊎_elim
              (λ (l : j < t). subst (λ y. G.first ≤ y) (sym (old j l)) (s.low j l))
              (λ (ge : t ≤ j). subst (λ y. G.first ≤ y) (sym (top j ge lt)) col.low)
              (cases_lt j t);
          below = λ j lt. ⊎_elim
              (λ (l : j < t). let b = s.below j l in let e = old j l in omega arith)
              (λ (ge : t ≤ j). let e = top j ge lt in omega arith)
              (cases_lt j t);
          loses = λ j lt. ⊎_elim
              (λ (l : j + 1 < t). rw (old j (omega arith), old (j + 1) l) (s.loses j l))
              (λ (ge : t ≤ j + 1).
              let e : t - 1 ≡ j = omega arith in
              rw (old j (omega arith), top (j + 1) ge lt) (subst (λ k. G.before (G.entry k x) (G.entry k (st k)) ≡ false) e (lost (omega arith))))
              (cases_lt (j + 1) t);
          kept = λ i c lt l cx. ⊎_elim
              (λ (cl : c < x). let k = s.kept i c lt l cl in let kl : k.0 < t = k.1 in (k.0, omega (arith, kl), old k.0 kl ∙ k.2))
              (λ (ge : x ≤ c). let e : x ≡ c = omega arith in (t, omega arith, new ∙ e))
              (cases_lt c x);
        }

    -- there is no room: the next column loses in the last row, so it is no row's answer
    pub pass : (t x : ℕ) → Stack G st t x → Column G x → G.rows ≤ t → 0 < G.rows → (0 < t → G.before (G.entry (t - 1) x) (G.entry (t - 1) (st (t - 1))) ≡ false) → Stack G st t (x + 1)
    pass t x s col full some lost =
        let f = s.fits in
        record {
          fits = s.fits;
          inside = let h = col.high in omega arith;
          rising = s.rising;
          low = s.low;
          below = λ j lt. let b = s.below j lt in omega arith;
          loses = s.loses;
          kept = λ i c lt l cx. ⊎_elim
              (λ (cl : c < x). s.kept i c lt l cl)
              (λ (ge : x ≤ c).
              let e : x ≡ c = omega arith in
              let up : st (t - 1) < x = s.below (t - 1) (omega arith) in
              absurd (matched i x (st (t - 1)) (subst (λ k. Answer G i k) (sym e) l) (s.low (t - 1) (omega arith)) up (lost_above i (t - 1) (st (t - 1)) x (omega arith) (omega arith) col up (lost (omega arith)))))
              (cases_lt c x);
        }

    pub holds_some : (count : ℕ) → 0 < G.rows → 0 < G.columns → Holds G st count → 0 < count
    holds_some count rows columns h =
        let a = some_answer 0 columns in
        let j = h.kept 0 a.0 rows a.1 in
        let l = j.1 in
        omega arith

module _ {E : Type 0} (G : Grid E) (st : ℕ → ℕ) where
  -- the topmost column of a stack that has one
  pub top_column : (top next : ℕ) → 0 < top → Stack G st top next → Column G (st (top - 1))
  top_column top next some s = let a = s.below (top - 1) (omega arith) in let b = s.inside in record { low = s.low (top - 1) (omega arith); high = omega arith }

  -- at the end of the columns the stack has all answers
  pub stack_holds : (len : ℕ) → Stack G st len (G.first + G.columns) → Holds G st len
  stack_holds len s = record {
    rising = s.rising;
    within = λ j l. record { low = s.low j l; high = s.below j l };
    kept = λ i c l a. s.kept i c l a a.high;
  }

-- the columns that a level keeps may stand elsewhere
pub keeps_moved : {E : Type 0} {G : Grid E} {st st' : ℕ → ℕ} {count : ℕ} → ((j : ℕ) → j < count → st' j ≡ st j) → Keeps G st count → Keeps G st' count
keeps_moved {G = G} e k =
    let h = k.holds in
    record {
      holds = record {
        rising = λ j l. let a = e j (omega arith) in let b = e (j + 1) l in let r = h.rising j l in omega arith;
        within = λ j l. subst (λ c. Column G c) (sym (e j l)) (h.within j l);
        kept = λ i c l a. let w = h.kept i c l a in (w.0, w.1, e w.0 w.1 ∙ w.2);
      };
      few = k.few;
      some = k.some;
    }

-- the same grid with other entries, which agree where it looks
abbrev pub with_entry : {E : Type 0} → Grid E → (ℕ → ℕ → E) → Grid E
with_entry G f = record { before = G.before; entry = f; rows = G.rows; first = G.first; columns = G.columns }

abbrev pub Agree : {E : Type 0} → Grid E → (ℕ → ℕ → E) → (ℕ → ℕ → E) → Type 0
Agree G f h = (i c : ℕ) → i < G.rows → Column G c → f i c ≡ h i c

module _ {E : Type 0} (G : Grid E) {f h : ℕ → ℕ → E} (agree : Agree G f h) where
  pub answer_same : (i c : ℕ) → i < G.rows → Answer (with_entry G f) i c → Answer (with_entry G h) i c
  answer_same i c l a = leftmost_same (λ k x y. agree i k l (record { low = x; high = y })) a

  back : (i c : ℕ) → i < G.rows → Answer (with_entry G h) i c → Answer (with_entry G f) i c
  back i c l a = leftmost_same (λ k x y. sym (agree i k l (record { low = x; high = y }))) a

  pub keeps_same : {st : ℕ → ℕ} {count : ℕ} → Keeps (with_entry G f) st count → Keeps (with_entry G h) st count
  keeps_same k =
      let o = k.holds in
      record { holds = record { rising = o.rising; within = λ j l. let w = o.within j l in record { low = w.low; high = w.high }; kept = λ i c l a. o.kept i c l (back i c l a) }; few = k.few; some = k.some }

  pub stack_same : {st : ℕ → ℕ} {len next : ℕ} → Stack (with_entry G f) st len next → Stack (with_entry G h) st len next
  stack_same {st = st} {len = len} s =
      let top = s.inside in
      let fits = s.fits in
      let col : (j : ℕ) → j < len → Column G (st j) = λ j l. let b = s.below j l in record { low = s.low j l; high = omega arith } in
      record {
        fits = s.fits;
        inside = s.inside;
        rising = s.rising;
        low = s.low;
        below = s.below;
        loses = λ j l. rw (← agree j (st (j + 1)) (omega arith) (col (j + 1) l), ← agree j (st j) (omega arith) (col j (omega arith))) (s.loses j l);
        kept = λ i c l a. s.kept i c l (back i c l a);
      }
