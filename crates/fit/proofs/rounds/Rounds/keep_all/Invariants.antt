use Rattle.std.proofs.Common.{◌≡◌, ◌+◌}
use Rattle.fit.specs.Rounds.{ledger_of}
use Rattle.fit.specs.Filling.{KeptAll}
use Rattle.fit.proofs.rounds.Rounds.keep_all.Given as goal

abbrev pub invariant-loop-i : goal.invariant-loop-i
invariant-loop-i g l =
    KeptAll g.W.Weighing l.initial.self l.self l.mark l.i l.columns
    × (ledger_of l.self ≡ ledger_of l.initial.self + l.i)
