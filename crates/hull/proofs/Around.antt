-- The leftmost least column of row i of a hull's sheet names the corner farthest from corner i.
use Rattle.std.proofs.Common.{◌≡◌, ℕ, ◌+◌, ◌-◌, ◌*◌, ◌%◌, ◌<◌, ◌≤◌, Bool, List, length, get_or, ℤ, pos, negsuc, ◌-ℤ◌, ◌≤ℤ◌, ◌<ℤ◌, sym, ap, ◌∙◌, subst, inl, inr, mod-lt, zero-add, arith, take, drop, ◌++◌, get_or-take}
use Rattle.std.proofs.lemmas.List.{get_or_append_left, get_or-append_right, get_or-drop, length-take-le}
use Rattle.std.proofs.lemmas.Bool.{cases_order}
use Rattle.std.proofs.lemmas.Int.{ints}
use Rattle.std.proofs.Math.Nat.{eq-zero-or-pos}
use Rattle.std.specs.Int.Signed.{lt_z}
use Rattle.search.specs.Least.{Leftmost}
use Rattle.hull.specs.declared.corner.Corner.{Corner}
use Rattle.hull.specs.declared.reach.Reach.{Reach}
use Rattle.hull.specs.Plane.{distance, corner_at}
use Rattle.hull.specs.Convex.{Enough, AllLeft}
use Rattle.hull.specs.Reaches.{reach}
use Rattle.hull.specs.Farthest.{steps, Farthest}
use Rattle.hull.specs.PlaneLemmas.{distance_self}
use Rattle.hull.specs.ReachesLemmas.{met, below_or, mod_once, mod_twice, apart_around, reach_left, reach_around, reach_right, true_below, not_below_at_most}

-- going as many steps from corner i as lead to corner j
steps_lead : (n i j : ℕ) → i < n → j < n → (i + steps n i j) % n ≡ j
steps_lead n i j hi hj =
    elim (below_or j i) [
      | inl ji ↦ rw (mod_once (j + n - i) n (omega arith)) (let e : i + (j + n - i) ≡ j + n = omega arith in rw e (mod_twice (j + n) n (omega arith) (omega arith) ∙ omega arith))
      | inr ij ↦ rw (mod_twice (j + n - i) n (omega arith) (omega arith)) (let e : i + (j + n - i - n) ≡ j = omega arith in rw e (mod_once j n hj))
    ]

-- the corner of a column is as many steps from corner i as the column is from column i
column_steps : (n i c : ℕ) → i < n → i < c → c < i + n → steps n i (c % n) ≡ c - i
column_steps n i c hi ic cn =
    elim (below_or c n) [
      | inl c<n ↦ rw (mod_once c n c<n) (mod_twice (c + n - i) n (omega arith) (omega arith) ∙ omega arith)
      | inr n≤c ↦ rw (mod_twice c n n≤c (omega arith)) (let e : c - n + n - i ≡ c - i = omega arith in rw e (mod_once (c - i) n (omega arith)))
    ]

-- the order of reaches
abbrev pub before : Reach → Reach → Bool
before a b = lt_z b.value a.value

abbrev pub row : List Corner → ℕ → ℕ → Reach
row cs i j = record { value = reach cs i j }

positive_not_left : {X : Type 0} (i j : ℕ) (d : ℤ) → j ≤ i → pos 0 <ℤ d → d ≤ℤ (pos j -ℤ pos i) → X
positive_not_left i j d h g l = absurd (omega (arith, ints))

positive_not_right : {X : Type 0} (d : ℤ) → pos 0 <ℤ d → d ≤ℤ negsuc 0 → X
positive_not_right d g l = absurd (omega (arith, ints))

-- the leftmost least column is one of the distances
pub best_around : (cs : List Corner) → Enough cs → AllLeft cs → (i c : ℕ) → i < length cs → Leftmost before (row cs i) 0 (2 * length cs - 1) c → (i < c) × (c < i + length cs)
best_around cs h f i c hi best =
    let next = distance (corner_at cs i) (met cs (i + 1)) in
    let up : pos 0 <ℤ next = apart_around cs h f i (i + 1) hi (omega arith) (omega arith) in
    let more : next ≤ℤ reach cs i c = rw (reach_around cs i (i + 1) (omega arith) (omega arith)) at (not_below_at_most (reach cs i c) (reach cs i (i + 1)) (best.least (i + 1) (omega arith) (omega arith))) in
    elim (below_or i c) [
      | inr ci ↦ positive_not_left i c next ci up (rw (reach_left cs i c ci) at more)
      | inl ic ↦ elim (below_or c (i + length cs)) [
        | inl cn ↦ (ic, cn)
        | inr nc ↦ positive_not_right next up (rw (reach_right cs i c (omega arith) nc) at more)
      ]
    ]

-- the corner j of the row, as a column: corner i itself, or one of the columns after it
at_own : (cs : List Corner) (i j : ℕ) → i < length cs → j < length cs → steps (length cs) i j ≡ 0 → distance (corner_at cs i) (corner_at cs j) ≡ pos 0
at_own cs i j hi hj none =
    let same : i ≡ j = sym (mod_once i (length cs) hi) ∙ ap (λ k. k % length cs) (omega arith) ∙ steps_lead (length cs) i j hi hj in
    subst (λ k. distance (corner_at cs i) (corner_at cs k) ≡ pos 0) same (distance_self (corner_at cs i))

at_column : (cs : List Corner) (i j : ℕ) → i < length cs → j < length cs → 0 < steps (length cs) i j → reach cs i (i + steps (length cs) i j) ≡ distance (corner_at cs i) (corner_at cs j)
at_column cs i j hi hj some =
    let below : steps (length cs) i j < length cs = mod-lt (j + length cs - i) (omega arith) in
    reach_around cs i (i + steps (length cs) i j) (omega arith) (omega arith)
    ∙ ap (λ k. distance (corner_at cs i) (corner_at cs k)) (steps_lead (length cs) i j hi hj)

positive_not_negative : (a b : ℤ) → a ≡ pos 0 → pos 0 <ℤ b → a <ℤ b
positive_not_negative a b e h = omega (arith, ints)

below_at_most : (a b : ℤ) → a <ℤ b → a ≤ℤ b
below_at_most a b h = omega (arith, ints)

pub best_is_farthest : (cs : List Corner) → Enough cs → AllLeft cs → (i c : ℕ) → i < length cs → Leftmost before (row cs i) 0 (2 * length cs - 1) c → Farthest cs i (c % length cs)
best_is_farthest cs h f i c hi best =
    let n = length cs in
    let inside = best_around cs h f i c hi best in
    let up : pos 0 <ℤ distance (corner_at cs i) (met cs c) = apart_around cs h f i c hi inside.0 inside.1 in
    let here : reach cs i c ≡ distance (corner_at cs i) (met cs c) = reach_around cs i c inside.0 inside.1 in
    let far : steps n i (c % n) ≡ c - i = column_steps n i c hi inside.0 inside.1 in
    record {
      there = mod-lt c (omega arith);
      none_farther = λ j hj. elim (eq-zero-or-pos (steps n i j)) [
        | inl none ↦ below_at_most (distance (corner_at cs i) (corner_at cs j)) (distance (corner_at cs i) (met cs c)) (positive_not_negative (distance (corner_at cs i) (corner_at cs j)) (distance (corner_at cs i) (met cs c)) (at_own cs i j hi hj none) up)
        | inr some ↦
            let below : steps n i j < n = mod-lt (j + n - i) (omega arith) in
            rw (at_column cs i j hi hj some) at (rw here at (not_below_at_most (reach cs i c) (reach cs i (i + steps n i j)) (best.least (i + steps n i j) (omega arith) (omega arith))))
      ];
      first_met = λ j hj sooner. elim (eq-zero-or-pos (steps n i j)) [
        | inl none ↦ positive_not_negative (distance (corner_at cs i) (corner_at cs j)) (distance (corner_at cs i) (met cs c)) (at_own cs i j hi hj none) up
        | inr some ↦
            let earlier : i + steps n i j < c = omega arith in
            rw (at_column cs i j hi hj some) at (rw here at (true_below (reach cs i (i + steps n i j)) (reach cs i c) (best.leftmost (i + steps n i j) (omega arith) earlier)))
      ];
    }

-- there is one farthest corner
below_not_above : (a b : ℤ) → a <ℤ b → b ≤ℤ a → ⊥
below_not_above a b h g = omega (arith, ints)

pub farthest_unique : (cs : List Corner) (i p q : ℕ) → i < length cs → Farthest cs i p → Farthest cs i q → p ≡ q
farthest_unique cs i p q hi fp fq =
    let n = length cs in
    let to : ℕ → ℤ = λ j. distance (corner_at cs i) (corner_at cs j) in
    elim (cases_order (steps n i p) (steps n i q)) [
      | inl same ↦ sym (steps_lead n i p hi fp.there) ∙ ap (λ e. (i + e) % n) same ∙ steps_lead n i q hi fq.there
      | inr other ↦ elim other [
        | inl sooner ↦ absurd (below_not_above (to p) (to q) (fq.first_met p fp.there sooner) (fp.none_farther q fq.there))
        | inr later ↦ absurd (below_not_above (to q) (to p) (fp.first_met q fq.there later) (fq.none_farther p fp.there))
      ]
    ]

-- the columns found in every row, brought round, are the farthest corners
pub columns_name_farthest : (cs : List Corner) → Enough cs → AllLeft cs → (n m : ℕ) → n ≡ length cs → m ≡ 2 * length cs - 1 → (columns answers : List ℕ)
    → ((i : ℕ) → i < n → Leftmost before (row cs (0 + i)) 0 m (get_or columns i 0))
    → ((i : ℕ) → i < n → get_or answers i 0 ≡ get_or columns i 0 % n)
    → (i : ℕ) → i < length cs → Farthest cs i (get_or answers i 0)
columns_name_farthest cs h f n m all wide columns answers best brought i hi =
    let below : i < n = omega arith in
    let named : get_or answers i 0 ≡ get_or columns i 0 % length cs = brought i below ∙ ap (λ k. get_or columns i 0 % k) all in
    rw named (best_is_farthest cs h f i (get_or columns i 0) hi
    (subst (λ k. Leftmost before (row cs i) 0 k (get_or columns i 0)) wide (subst (λ k. Leftmost before (row cs k) 0 m (get_or columns i 0)) (zero-add i) (best i below))))

-- the first n columns brought round and put back: they are corners now, and the columns after them still stand
pub put_back : (n : ℕ) (columns brought : List ℕ) → n ≤ length columns → length brought ≡ length (take n columns)
    → ((k : ℕ) → k < length (take n columns) → get_or brought k 0 ≡ get_or (take n columns) k 0 % length (take n columns))
    → ((k : ℕ) → k < n → get_or (brought ++ drop n columns) k 0 ≡ get_or columns k 0 % n) × ((k : ℕ) → n ≤ k → get_or (brought ++ drop n columns) k 0 ≡ get_or columns k 0)
put_back n columns brought h size each =
    let many : length (take n columns) ≡ n = length-take-le n columns h in (
      λ k below. get_or_append_left brought (drop n columns) 0 k (omega arith) ∙ subst (λ m. get_or brought k 0 ≡ get_or (take n columns) k 0 % m) many (each k (omega arith)) ∙ ap (λ c. c % n) (get_or-take n columns k 0 below),
      λ k past. get_or-append_right brought (drop n columns) n k 0 (size ∙ many) past ∙ get_or-drop n columns (k - n) 0 ∙ ap (λ m. get_or columns m 0) (omega arith),
    )
