use Rattle.fit.proofs.Kept.{rounds_more}
use Rattle.fit.proofs.rounds.Rounds.run_all.Goals as goal

pub loop-round-preserved : goal.loop-round-preserved
loop-round-preserved g c = rounds_more g.W.Weighing c.loop-round.invariant c.run.ensures.after
