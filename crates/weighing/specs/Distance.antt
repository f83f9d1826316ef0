-- How far two numbers lie from one another.
use Rattle.std.specs.Prelude.{ℕ, ◌+◌, ◌-◌}

-- the distance of two numbers
abbrev pub apart : ℕ → ℕ → ℕ
apart m n = (m - n) + (n - m)
