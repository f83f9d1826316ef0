-- The running sums give the weight, so the sums about the middle are no more than those at the ends.
use Rattle.std.proofs.Common.{arith}
use Rattle.rising.specs.Held.{readings}
use Rattle.rising.specs.HeldLemmas.{held_rising}
use Rattle.rising.specs.MiddlesLemmas.{middle_by_sums}
use Rattle.rising.proofs.middle.AtMiddleHold.weight.Goals as goal

pub overflow_sub-result : goal.overflow_sub-result
overflow_sub-result c =
    let r = c.args.row.now in
    let sums = middle_by_sums (readings r) (held_rising r) c.args.a c.args.b c.requires.some c.requires.within in
    omega arith
