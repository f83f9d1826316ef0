use Rattle.std.proofs.Common.{◌*◌, ◌^◌}
use Rattle.search.proofs.Depths.{Answered}
use Rattle.search.proofs.levels.raise.Given as goal

abbrev pub invariant-loop-depth : goal.invariant-loop-depth
invariant-loop-depth g l = Answered g.S.Sheet l.initial.sheet l.sheet l.strip (2 ^ l.depth * 2) l.initial.answers l.answers
