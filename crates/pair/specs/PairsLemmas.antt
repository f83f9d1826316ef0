-- What is held in a pair is held on both sides.
use Rattle.std.specs.Prelude.{ℕ, ◌≤◌, ◌<◌, Bool, cond, ◌&&◌, ◌==◌}
use Rattle.std.proofs.Common.{arith}

pub held_on_both : (low high : Bool) (m n d : ℕ) → 0 < d → d ≤ cond (low && (high && m == n)) m 0 → (d ≤ m) × (d ≤ n)
held_on_both low high m n d some h = (grind arith, grind arith)
