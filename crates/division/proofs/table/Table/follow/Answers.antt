-- Each turn writes one end more of the trail.
use Rattle.std.proofs.Common.{◌≡◌, ℕ, ◌+◌, ◌-◌, ap, ◌∙◌, arith, drop-set-lt}
use Rattle.division.specs.Tables.{cut_at}
use Rattle.division.specs.Trails.{trail}
use Rattle.division.proofs.Places.{follow_more}
use Rattle.division.proofs.table.Table.follow.Goals as goal

pub loop-i-preserved : goal.loop-i-preserved
loop-i-preserved c =
    let inv = c.loop-i.invariant in
    let here : c.loop-i.i - 1 + 1 ≡ c.loop-i.i = omega arith in (
      omega arith,
      follow_more (cut_at c.args.self.now) (trail (cut_at c.args.self.now) c.args.s c.args.n) c.loop-i.ends c.args.s c.loop-i.i c.loop-i.j c.cut-j.result (omega arith) inv.0 (omega arith) (c.cut-j.ensures.value ∙ ap (λ (i : ℕ). cut_at c.args.self.now i c.loop-i.j) here) inv.1,
      drop-set-lt c.args.s c.loop-i.ends _ c.loop-i.j (omega arith) ∙ inv.2,
    )
