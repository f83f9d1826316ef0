use Rattle.std.proofs.Common.{ℕ}
use Rattle.fit.specs.Calls.{Opens}
use Rattle.runs.specs.Sessions.{Ran}
use Rattle.runs.proofs.run.make_all.Given as goal

abbrev pub invariant-loop-i : goal.invariant-loop-i
invariant-loop-i g l =
    (w : g.row.W.Denot) (k : ℕ) → Opens g.W.Weighing w k l.initial.fit → Ran g.W.Weighing w k l.i l.calls l.initial.answers l.answers l.fit
