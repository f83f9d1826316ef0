-- The sheet of a hull: its entries part by part, their bounds, and its law, from strict convexity.
use Rattle.std.specs.Prelude.{◌≡◌, ℕ, ◌+◌, ◌-◌, ◌%◌, ◌<◌, ◌≤◌, true, false, ◌⊎◌, List, length, ℤ, pos, negsuc, ◌+ℤ◌, ◌-ℤ◌, ◌*ℤ◌, ◌≤ℤ◌, ◌<ℤ◌, int_lt, unsigned_abs}
use Rattle.std.proofs.Common.{subst, ◌∙◌, inl, inr, arith, mod-eq_of_lt, mod-lt}
use Rattle.std.proofs.Math.Nat.{mod-eq-sub-mod}
use Rattle.std.proofs.lemmas.Int.{ints}
use Rattle.std.proofs.lemmas.Bool.Decides.{nat_tests}
use Rattle.hull.specs.declared.corner.Corner.{Corner}
use Rattle.hull.specs.Plane.{Near, Left, distance, corner_at}
use Rattle.hull.specs.Convex.{Enough, AllNear, AllLeft}
use Rattle.hull.specs.Reaches.{reach, ReachesWithin}
use Rattle.hull.specs.Bounds.{product_small}
use Rattle.hull.specs.PlaneLemmas.{left_on, left_back, left_apart, nearer_stays, distance_comm, distance_nonneg}

-- the corner met at number k, going round and round
abbrev pub met : List Corner → ℕ → Corner
met cs k = corner_at cs (k % length cs)

pub below_or : (a b : ℕ) → (a < b) ⊎ (b ≤ a)
below_or a b = grind arith

pub mod_once : (j n : ℕ) → j < n → j % n ≡ j
mod_once j n h = mod-eq_of_lt h

pub mod_twice : (j n : ℕ) → n ≤ j → j < n + n → j % n ≡ j - n
mod_twice j n h g = mod-eq-sub-mod h ∙ mod_once (j - n) n (omega arith)

-- the parts of a row
pub reach_left : (cs : List Corner) (i j : ℕ) → j ≤ i → reach cs i j ≡ pos j -ℤ pos i
unfolding reach
reach_left cs i j h = grind (arith, nat_tests)

pub reach_around : (cs : List Corner) (i j : ℕ) → i < j → j < i + length cs → reach cs i j ≡ distance (corner_at cs i) (met cs j)
unfolding reach
reach_around cs i j h g = grind (arith, nat_tests)

pub reach_right : (cs : List Corner) (i j : ℕ) → 0 < length cs → i + length cs ≤ j → reach cs i j ≡ negsuc 0
unfolding reach
reach_right cs i j h g = grind (arith, nat_tests)

-- three corners that are met in this order counterclockwise within one round turn left
left_around : (cs : List Corner) → AllLeft cs → (i j k : ℕ) → i < length cs → i < j → j < k → k < i + length cs → Left (corner_at cs i) (met cs j) (met cs k)
left_around cs f i j k hi ij jk kn =
    let P = corner_at cs in
    let n = length cs in
    elim (below_or k n) [
      | inl k<n ↦ rw (mod_once j n (omega arith)) (rw (mod_once k n k<n) (f i j k (ij, jk, k<n)))
      | inr n≤k ↦ elim (below_or j n) [
        | inl j<n ↦ rw (mod_once j n j<n) (rw (mod_twice k n n≤k (omega arith)) (left_on (P (k - n)) (P i) (P j) (f (k - n) i j (omega arith, ij, j<n))))
        | inr n≤j ↦ rw (mod_twice j n n≤j (omega arith)) (rw (mod_twice k n n≤k (omega arith)) (left_back (P (j - n)) (P (k - n)) (P i) (f (j - n) (k - n) i (omega arith, omega arith, hi))))
      ]
    ]

-- two corners are apart
pub apart_around : (cs : List Corner) → Enough cs → AllLeft cs → (i j : ℕ) → i < length cs → i < j → j < i + length cs → pos 0 <ℤ distance (corner_at cs i) (met cs j)
apart_around cs h f i j hi ij jn =
    elim (below_or (j + 1) (i + length cs)) [
      | inl l ↦ left_apart (corner_at cs i) (met cs j) (met cs (j + 1)) (left_around cs f i j (j + 1) hi ij (omega arith) l)
      | inr g ↦ subst (λ z. pos 0 <ℤ z) (distance_comm (met cs j) (corner_at cs i))
          (left_apart (met cs j) (corner_at cs i) (met cs (i + 1))
          (left_back (corner_at cs i) (met cs (i + 1)) (met cs j) (left_around cs f i (i + 1) j hi (omega arith) (omega arith) jn)))
    ]

-- the bounds of an entry
left_bounds : (i j : ℕ) → j ≤ i → i < 512 → (negsuc 510 ≤ℤ (pos j -ℤ pos i)) × ((pos j -ℤ pos i) ≤ℤ pos 7200000000)
left_bounds i j h g = (omega (arith, ints), omega (arith, ints))

small_sum : (a b : ℤ) → unsigned_abs a ≤ 3600000000 → unsigned_abs b ≤ 3600000000 → (a +ℤ b) ≤ℤ pos 7200000000
small_sum a b h g = omega (arith, ints)

above_low : (a : ℤ) → pos 0 ≤ℤ a → negsuc 510 ≤ℤ a
above_low a h = omega (arith, ints)

distance_bounds : (p q : Corner) → Near p → Near q → (negsuc 510 ≤ℤ distance p q) × (distance p q ≤ℤ pos 7200000000)
distance_bounds p q hp hq = (
  above_low (distance p q) (distance_nonneg p q),
  small_sum ((p.x -ℤ q.x) *ℤ (p.x -ℤ q.x)) ((p.y -ℤ q.y) *ℤ (p.y -ℤ q.y))
      (product_small p.x q.x p.x q.x hp.0 hq.0 hp.0 hq.0)
      (product_small p.y q.y p.y q.y hp.1 hq.1 hp.1 hq.1),
)

right_bounds : (negsuc 510 ≤ℤ negsuc 0) × (negsuc 0 ≤ℤ pos 7200000000)
right_bounds = (omega (arith, ints), omega (arith, ints))

pub reaches_within : (cs : List Corner) → Enough cs → AllNear cs → ReachesWithin cs
reaches_within cs h near i j hi hj =
    elim (below_or i j) [
      | inr ji ↦ rw (reach_left cs i j ji) (left_bounds i j ji (omega arith))
      | inl ij ↦ elim (below_or j (i + length cs)) [
        | inl jn ↦ rw (reach_around cs i j ij jn) (distance_bounds (corner_at cs i) (met cs j) (near i hi) (near (j % length cs) (mod-lt j (omega arith))))
        | inr nj ↦ rw (reach_right cs i j (omega arith) nj) right_bounds
      ]
    ]

-- comparisons with the entries that are no distances
left_below_left : (a b s : ℕ) → a < b → (pos a -ℤ pos s) <ℤ (pos b -ℤ pos s)
left_below_left a b s h = omega (arith, ints)

pub left_below_positive : (a s : ℕ) (d : ℤ) → a ≤ s → pos 0 <ℤ d → (pos a -ℤ pos s) <ℤ d
left_below_positive a s d h g = omega (arith, ints)

left_below_right : (a r s : ℕ) → r < s → (pos a -ℤ pos r) <ℤ negsuc 0 → (pos a -ℤ pos s) <ℤ negsuc 0
left_below_right a r s h g = omega (arith, ints)

positive_not_below_right : {X : Type 0} (d : ℤ) → pos 0 <ℤ d → d <ℤ negsuc 0 → X
positive_not_below_right d h g = absurd (omega (arith, ints))

right_not_below_right : {X : Type 0} → negsuc 0 <ℤ negsuc 0 → X
right_not_below_right g = absurd (omega (arith, ints))

-- The law: where column b holds more than column a in row r, it does so in every later row s. The four corners r, s, a, b
-- stand around the hull in this order, or an entry is no distance.
pub reach_monotone : (cs : List Corner) → Enough cs → AllLeft cs → (r s a b : ℕ) → r < s → s < length cs → a < b → reach cs r a <ℤ reach cs r b → reach cs s a <ℤ reach cs s b
reach_monotone cs h f r s a b rs sn ab more =
    let P = corner_at cs in
    let n = length cs in
    elim (below_or s b) [
      | inr bs ↦ rw (reach_left cs s a (omega arith)) (rw (reach_left cs s b bs) (left_below_left a b s ab))
      | inl sb ↦ elim (below_or b (s + n)) [
        | inl b-in-s ↦ elim (below_or s a) [
          | inr a≤s ↦ rw (reach_left cs s a a≤s) (rw (reach_around cs s b sb b-in-s) (left_below_positive a s (distance (P s) (met cs b)) a≤s (apart_around cs h f s b sn sb b-in-s)))
          | inl sa ↦ elim (below_or b (r + n)) [
            | inl b-in-r ↦ rw (reach_around cs s a sa (omega arith)) (rw (reach_around cs s b sb b-in-s)
                (nearer_stays (P r) (P s) (met cs a) (met cs b)
                (subst (λ (m : ℕ). Left (P r) (P m) (met cs a)) (mod_once s n sn) (left_around cs f r s a (omega arith) rs sa (omega arith)))
                (subst (λ (m : ℕ). Left (P r) (P m) (met cs b)) (mod_once s n sn) (left_around cs f r s b (omega arith) rs sb b-in-r))
                (left_around cs f r a b (omega arith) (omega arith) ab b-in-r)
                (left_around cs f s a b sn sa ab b-in-s)
                (rw (reach_around cs r a (omega arith) (omega arith)) at (rw (reach_around cs r b (omega arith) b-in-r) at more))))
            | inr b-past-r ↦ elim (below_or a (r + n)) [
              | inl a-in-r ↦ positive_not_below_right (distance (P r) (met cs a)) (apart_around cs h f r a (omega arith) (omega arith) a-in-r)
                  (rw (reach_around cs r a (omega arith) a-in-r) at (rw (reach_right cs r b (omega arith) b-past-r) at more))
              | inr a-past-r ↦ right_not_below_right (rw (reach_right cs r a (omega arith) a-past-r) at (rw (reach_right cs r b (omega arith) b-past-r) at more))
            ]
          ]
        ]
        | inr b-past-s ↦ elim (below_or r a) [
          | inr ar ↦ rw (reach_left cs s a (omega arith)) (rw (reach_right cs s b (omega arith) b-past-s)
              (left_below_right a r s rs (rw (reach_left cs r a ar) at (rw (reach_right cs r b (omega arith) (omega arith)) at more))))
          | inl ra ↦ elim (below_or a (r + n)) [
            | inl a-in-r ↦ positive_not_below_right (distance (P r) (met cs a)) (apart_around cs h f r a (omega arith) ra a-in-r)
                (rw (reach_around cs r a ra a-in-r) at (rw (reach_right cs r b (omega arith) (omega arith)) at more))
            | inr a-past-r ↦ right_not_below_right (rw (reach_right cs r a (omega arith) a-past-r) at (rw (reach_right cs r b (omega arith) (omega arith)) at more))
          ]
        ]
      ]
    ]

-- the order as a test
pub below_true : (a b : ℤ) → a <ℤ b → int_lt a b ≡ true
below_true a b h = grind (arith, ints)

pub true_below : (a b : ℤ) → int_lt a b ≡ true → a <ℤ b
true_below a b e = omega (arith, ints)

pub not_below_at_most : (a b : ℤ) → int_lt a b ≡ false → b ≤ℤ a
not_below_at_most a b e = omega (arith, ints)
