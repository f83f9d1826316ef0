-- A count that stays at its greatest.
use Rattle.std.specs.Prelude.{ℕ, ◌+◌, ◌-◌, ◌^◌, min}

-- one more, up to 2^63 - 1
abbrev pub raised : ℕ → ℕ
raised count = min (count + 1) (2 ^ 63 - 1)
