use Rattle.std.proofs.Common.{arith}
use Rattle.runs.proofs.Going.{ran_none, ran_more}
use Rattle.runs.proofs.run.make_all.Goals as goal

pub loop-i-init : goal.loop-i-init
loop-i-init g c w k o = ran_none g.W.Weighing w k c.args.calls.now c.args.answers.now c.args.fit.now o

pub loop-i-preserved : goal.loop-i-preserved
loop-i-preserved g c w k o =
    ran_more g.W.Weighing w k c.loop-i.i c.args.calls.now c.args.answers.now c.loop-i.answers c.loop-i.fit c.step.new.fit _ c.step.result _ _ (omega arith) (omega arith)
    c.step.ensures.did c.step.ensures.law (c.loop-i.invariant w k o)
