-- Strict convexity in one pass: three tests at each corner give a left turn at every three corners with rising numbers.
use Rattle.std.proofs.Common.{◌≡◌, ℕ, zero, suc, ◌+◌, ◌-◌, ◌<◌, ◌≤◌, List, length, take, drop, get_or-take, pos, sym, ◌∙◌, subst, inl, inr, arith}
use Rattle.hull.specs.declared.corner.Corner.{Corner}
use Rattle.std.proofs.lemmas.List.{get_or-drop}
use Rattle.std.proofs.Math.Nat.{eq-or-lt_of_le}
use Rattle.hull.specs.Plane.{Left, corner_at}
use Rattle.hull.specs.Convex.{AllLeft, Passes}
use Rattle.hull.specs.PlaneLemmas.{left_before, left_beyond, left_on, left_back}

-- every two corners after the corner i turn left from it
abbrev Star : (ℕ → Corner) → ℕ → ℕ → Type 0
Star P n i = (k j : ℕ) → i < j → j < k → k < n → Left (P i) (P j) (P k)

-- each side after the corner i turns left from it
abbrev Sides : (ℕ → Corner) → ℕ → ℕ → Type 0
Sides P n i = (k : ℕ) → i < k → suc k < n → Left (P i) (P k) (P (suc k))

-- the three tests
abbrev First : (ℕ → Corner) → ℕ → Type 0
First P n = (k : ℕ) → 1 < k → k < n → Left (P 0) (P 1) (P k)

abbrev Fan : (ℕ → Corner) → ℕ → Type 0
Fan P n = Sides P n 0

abbrev Bends : (ℕ → Corner) → ℕ → Type 0
Bends P n = (k : ℕ) → suc (suc k) < n → Left (P k) (P (suc k)) (P (suc (suc k)))

first_star : (P : ℕ → Corner) (n : ℕ) → First P n → Fan P n → Star P n 0
first_star P n f s zero j a b c = absurd (omega arith)
first_star P n f s (suc k) j a b c =
    elim (eq-or-lt_of_le {n = j} {m = k} (omega arith)) [
      | inl e ↦ subst (λ m. Left (P 0) (P m) (P (suc k))) (sym e) (s k (omega arith) c)
      | inr l ↦ elim (eq-or-lt_of_le {n = 1} {m = j} (omega arith)) [
        | inl e ↦ subst (λ m. Left (P 0) (P m) (P (suc k))) e (f (suc k) (omega arith) c)
        | inr m ↦ left_beyond (P 0) (P 1) (P j) (P k) (P (suc k)) (f j m (omega arith)) (f k (omega arith) (omega arith)) (f (suc k) (omega arith) c) (first_star P n f s k j a l (omega arith)) (s k (omega arith) c)
      ]
    ]

-- from the corner i to the next: its sides
next_sides : (P : ℕ → Corner) (n i : ℕ) → Bends P n → Star P n i → Sides P n (suc i)
next_sides P n i t s zero a c = absurd (omega arith)
next_sides P n i t s (suc k) a c =
    elim (eq-or-lt_of_le {n = suc i} {m = k} (omega arith)) [
      | inl e ↦ subst (λ m. Left (P (suc i)) (P (suc m)) (P (suc (suc m)))) e (t (suc i) (subst (λ m. suc (suc m) < n) (sym e) c))
      | inr l ↦ left_back (P (suc k)) (P (suc (suc k))) (P (suc i))
          (left_before (P (suc k)) (P (suc (suc k))) (P i) (P (suc i)) (P k)
          (left_on (P i) (P (suc k)) (P (suc (suc k))) (s (suc (suc k)) (suc k) (omega arith) (omega arith) c))
          (left_back (P i) (P (suc i)) (P (suc k)) (s (suc k) (suc i) (omega arith) (omega arith) (omega arith)))
          (left_back (P i) (P k) (P (suc k)) (s (suc k) k (omega arith) (omega arith) (omega arith)))
          (left_back (P (suc i)) (P k) (P (suc k)) (next_sides P n i t s k l (omega arith)))
          (left_on (P k) (P (suc k)) (P (suc (suc k))) (t k c)))
    ]

next_star : (P : ℕ → Corner) (n i : ℕ) → Sides P n (suc i) → Star P n i → Star P n (suc i)
next_star P n i d s zero j a b c = absurd (omega arith)
next_star P n i d s (suc k) j a b c =
    elim (eq-or-lt_of_le {n = j} {m = k} (omega arith)) [
      | inl e ↦ subst (λ m. Left (P (suc i)) (P m) (P (suc k))) (sym e) (d k (omega arith) c)
      | inr l ↦ left_before (P (suc i)) (P j) (P k) (P (suc k)) (P i)
          (next_star P n i d s k j a l (omega arith))
          (d k (omega arith) c)
          (left_on (P i) (P (suc i)) (P k) (s k (suc i) (omega arith) (omega arith) (omega arith)))
          (left_on (P i) (P (suc i)) (P (suc k)) (s (suc k) (suc i) (omega arith) (omega arith) c))
          (left_on (P i) (P (suc i)) (P j) (s j (suc i) (omega arith) (omega arith) (omega arith)))
    ]

star : (P : ℕ → Corner) (n : ℕ) → First P n → Fan P n → Bends P n → (i : ℕ) → Star P n i
star P n f s t zero = first_star P n f s
star P n f s t (suc i) = next_star P n i (next_sides P n i t (star P n f s t i)) (star P n f s t i)

-- the three tests at each three corners in a row suffice
window_place : (corners : List Corner) (i j : ℕ) → j < 3 → corner_at (take 3 (drop i corners)) j ≡ corner_at corners (i + j)
window_place corners i j h = get_or-take 3 (drop i corners) j (record { x = pos 0; y = pos 0 }) h ∙ get_or-drop i corners j (record { x = pos 0; y = pos 0 })

pub passes_suffice : (corners : List Corner) → ((k : ℕ) → k + 3 ≤ length corners → Passes (corner_at corners 0) (corner_at corners 1) (take 3 (drop k corners))) → AllLeft corners
passes_suffice corners pass =
    let P = corner_at corners in
    let n = length corners in
    let tests : (k : ℕ) → suc (suc k) < n → Left (P 0) (P 1) (P (k + 2)) × Left (P 0) (P (k + 1)) (P (k + 2)) × Left (P (k + 0)) (P (k + 1)) (P (k + 2)) =
    λ k h. rw (window_place corners k 0 (omega arith), window_place corners k 1 (omega arith), window_place corners k 2 (omega arith)) at (pass k (omega arith)) in
    let past_first : First P n = λ k a b. let e : k - 2 + 2 ≡ k = omega arith in subst (λ m. Left (P 0) (P 1) (P m)) e (tests (k - 2) (omega arith)).0 in
    let fanned : Fan P n = λ k a b. let e : k - 1 + 1 ≡ k = omega arith in let f : k - 1 + 2 ≡ suc k = omega arith in
    subst (λ m. Left (P 0) (P k) (P m)) f (subst (λ m. Left (P 0) (P m) (P (k - 1 + 2))) e (tests (k - 1) (omega arith)).1) in
    let bent : Bends P n = λ k b. let e : k + 0 ≡ k = omega arith in let f : k + 1 ≡ suc k = omega arith in let g : k + 2 ≡ suc (suc k) = omega arith in
    subst (λ m. Left (P k) (P (suc k)) (P m)) g (subst (λ m. Left (P k) (P m) (P (k + 2))) f (subst (λ m. Left (P m) (P (k + 1)) (P (k + 2))) e (tests k b).2)) in
    λ i j k h. star P n past_first fanned bent i k j h.0 h.1 h.2
