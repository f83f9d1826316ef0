use Rattle.std.proofs.Common.{◌-◌, ◌*◌}
use Rattle.search.specs.Grid.{Stack}
use Rattle.search.specs.Levels.{nth}
use Rattle.search.specs.Steps.{Read, grid_of}
use Rattle.search.proofs.reduce.driven.Given as goal

abbrev pub invariant-loop-top : goal.invariant-loop-top
invariant-loop-top g l =
    Stack (grid_of g.S.Sheet l.initial.sheet l.level) (nth l.room) l.top l.column
    × Read g.S.Sheet (2 * (l.len - l.top)) l.initial.sheet l.sheet
