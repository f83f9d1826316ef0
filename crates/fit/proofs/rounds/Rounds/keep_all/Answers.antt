use Rattle.std.proofs.Common.{◌+◌, ◌<◌, arith}
use Rattle.fit.proofs.Kept.{kept_more}
use Rattle.fit.proofs.rounds.Rounds.keep_all.Goals as goal

pub loop-i-preserved : goal.loop-i-preserved
loop-i-preserved g c =
    let inside : c.args.mark + c.loop-i.i < g.W.Weighing.held c.args.self.now.weighing = omega arith in
    let risen = c.keep.ensures.after.ledger_risen in
    let before = c.loop-i.invariant.1 in
    (kept_more g.W.Weighing inside c.loop-i.invariant.0 c.keep.ensures.after, omega arith)
