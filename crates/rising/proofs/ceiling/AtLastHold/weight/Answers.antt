-- The running sums give the weight, so the later sum is no more than the earlier with the span's length times its level.
use Rattle.std.proofs.Common.{◌≡◌, ◌-◌, ◌*◌, slice_index, ap, arith}
use Rattle.rising.specs.Held.{readings}
use Rattle.rising.specs.HeldLemmas.{held_rising}
use Rattle.rising.specs.CeilingsLemmas.{ceiling_by_sums}
use Rattle.rising.proofs.ceiling.AtLastHold.weight.Goals as goal

pub overflow_sub-result-2 : goal.overflow_sub-result-2
overflow_sub-result-2 c =
    let r = c.args.row.now in
    let level : c.from-level.result ≡ slice_index (readings r) (c.args.b - 1) = cc in
    let times = ap (λ v. (c.args.b - c.args.a) * v) level in
    let sums = ceiling_by_sums (readings r) (held_rising r) c.args.a c.args.b c.requires.some c.requires.within in
    omega arith
