use Rattle.std.specs.Prelude.{ℕ, ◌≤◌, ◌<◌, Bool, true, false, cond}
use Rattle.std.proofs.Common.{arith}

pub held_below : (fits : Bool) (n d : ℕ) → 0 < d → d ≤ cond fits n 0 → d ≤ n
held_below true n d some h = h
held_below false n d some h = omega arith
