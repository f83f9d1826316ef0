use Rattle.fit.specs.Filling.{RoundsDone}
use Rattle.fit.proofs.rounds.Rounds.run_all.Given as goal

abbrev pub invariant-loop-round : goal.invariant-loop-round
invariant-loop-round g l =
    RoundsDone g.W.Weighing l.initial.self l.self l.round l.mark l.initial.answers l.answers l.initial.work l.work
