-- Sums over a span of places.
use Rattle.std.specs.Prelude.{ℕ, zero, suc, ◌+◌, ◌-◌, List, slice_index}

-- f(from) + f(from + 1) + .., k numbers in all
abbrev pub total : (ℕ → ℕ) → ℕ → ℕ → ℕ
total f from zero = 0
total f from (suc k) = total f from k + f (from + k)

-- the sum of f over the places a to b - 1
abbrev pub over_span : (ℕ → ℕ) → ℕ → ℕ → ℕ
over_span f a b = total f a (b - a)

-- the sum of the first k readings
abbrev pub sum_first : List ℕ → ℕ → ℕ
sum_first x k = total (λ i. slice_index x i) 0 k
