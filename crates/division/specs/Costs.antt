-- The order of cost entries, and what they add up to.
use Rattle.std.specs.Prelude.{ℕ, ◌+◌, ◌-◌, ◌^◌, ◌≤◌, Bool, true, false, nat_lt}
use Rattle.division.specs.declared.cost.Cost.{Cost}
use Rattle.division.specs.declared.cost.Cost.TheVariants.{Number, Empty}

-- the smaller number stands first, empty after every number, and two empties are level
abbrev pub before : Cost → Cost → Bool
before (Number x) (Number y) = nat_lt x y
before (Number x) Empty = true
before Empty (Number y) = false
before Empty Empty = false

-- a number is at most 2^62 - 1
abbrev pub Small : Cost → Type 0
Small (Number v) = v ≤ 2 ^ 62 - 1
Small Empty = Unit {0}

-- a weight more; empty stays empty
abbrev pub plus : Cost → ℕ → Cost
plus (Number v) w = Number (v + w)
plus Empty w = Empty

abbrev pub number_or_zero : Cost → ℕ
number_or_zero (Number v) = v
number_or_zero Empty = 0
