-- The even weighing: a span costs the square of how far its length is from the nominal length.
use Rattle.std.specs.Prelude.{ℕ, ◌-◌, ◌*◌, Bool, cond, ◌&&◌, ◌==◌, nat_le, nat_lt}
use Rattle.weighing.specs.Distance.{apart}

-- whether the nominal length is one that a span can have: 1 to 512
abbrev pub nominal_fits : ℕ → Bool
nominal_fits nominal = nat_le 1 nominal && nat_le nominal 512

-- what a span a..b costs
abbrev pub even_weight : ℕ → ℕ → ℕ → ℕ
even_weight nominal a b = apart (b - a) nominal * apart (b - a) nominal

-- 4 for a misfit, 1 where 512 readings are held, 2 for a reading above 65,535
abbrev pub even_verdict : ℕ → ℕ → ℕ → ℕ
even_verdict nominal n reading = cond (nominal_fits nominal) (cond (n == 512) 1 (cond (nat_lt 65535 reading) 2 0)) 4

abbrev pub even_top : ℕ → ℕ
even_top nominal = cond (nominal_fits nominal) 261121 0
