-- The verdict on a next reading, 0 where it may be taken.
use Rattle.std.specs.Prelude.{ℕ, cond, ◌==◌, nat_lt}

-- 1 where 512 readings are held, then 2 above 65,535, then 3 below the last one held
abbrev pub next_verdict : ℕ → ℕ → ℕ → ℕ
next_verdict n last reading = cond (n == 512) 1 (cond (nat_lt 65535 reading) 2 (cond (nat_lt reading last) 3 0))
