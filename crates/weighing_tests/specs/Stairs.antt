-- The cost of a step by its length, from a small table.
use Rattle.std.specs.Prelude.{ℕ, ◌-◌, cond, List, [], ◌∷◌, nat_lt, slice_index}

-- lengths 0 to 4
abbrev pub costs : List ℕ
costs = 0 ∷ 0 ∷ 1 ∷ 4 ∷ 9 ∷ []

abbrev pub stairs_weight : ℕ → ℕ → ℕ
stairs_weight a b = slice_index costs (b - a)

-- four readings at most, of any size
abbrev pub stairs_verdict : ℕ → ℕ
stairs_verdict n = cond (nat_lt n 4) 0 1
