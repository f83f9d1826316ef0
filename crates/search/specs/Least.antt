-- The leftmost least of a run of entries under a strict weak order.
use Rattle.std.specs.Prelude.{◌≡◌, ℕ, ◌+◌, ◌<◌, ◌≤◌, Bool, true, false}

-- Of the `count` entries of f from `first` on, none stands before the one at `best`, and that one stands before each on its left.
pub record Leftmost {E : Type 0} (before : E → E → Bool) (f : ℕ → E) (first count best : ℕ) : Type 0 where
  pub low : first ≤ best
  pub high : best < first + count
  pub least : (k : ℕ) → first ≤ k → k < first + count → before (f k) (f best) ≡ false
  pub leftmost : (k : ℕ) → first ≤ k → k < best → before (f best) (f k) ≡ true

-- a run of some entries has a leftmost least one
abbrev pub LeftmostIsThere : {E : Type 0} → (E → E → Bool) → Type 0
LeftmostIsThere {E} before = (f : ℕ → E) (first count : ℕ) → 0 < count → (best : ℕ) × Leftmost before f first count best

-- and no second
abbrev pub LeftmostIsOne : {E : Type 0} → (E → E → Bool) → Type 0
LeftmostIsOne {E} before = (f : ℕ → E) (first count a b : ℕ) → Leftmost before f first count a → Leftmost before f first count b → a ≡ b
