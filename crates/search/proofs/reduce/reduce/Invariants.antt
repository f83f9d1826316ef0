use Rattle.std.proofs.Common.{ℕ, ◌+◌, ◌*◌, ◌≤◌, length}
use Rattle.search.specs.Grid.{Stack}
use Rattle.search.specs.Levels.{nth}
use Rattle.search.specs.Steps.{Read, KeptFrom, grid_of}
use Rattle.search.proofs.Kept.{upto}
use Rattle.search.proofs.reduce.reduce.Given as goal

-- four reads for each column that came pay for what was read, and for two more for each column of the stack
abbrev pub invariant-loop-column : goal.invariant-loop-column
invariant-loop-column g l =
    Stack (grid_of g.S.Sheet l.initial.sheet l.level) (nth l.room) l.len (upto (nth g.offered) (l.level.strip.column + l.level.strip.columns) (length g.offered) (length l.yielded))
    × KeptFrom l.initial.room l.room l.level.rows
    × ((n : ℕ) × (n + 2 * l.len ≤ 4 * length l.yielded) × Read g.S.Sheet n l.initial.sheet l.sheet)
