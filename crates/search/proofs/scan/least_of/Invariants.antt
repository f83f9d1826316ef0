use Rattle.std.proofs.Common.{◌≡◌, ℕ, ◌+◌}
use Rattle.search.specs.Least.{Leftmost}
use Rattle.search.specs.Levels.{nth}
use Rattle.search.specs.Steps.{Read}
use Rattle.search.proofs.scan.least_of.Given as goal

-- of the first column and those that came, over the sheet as it was at first
abbrev pub invariant-loop-column : goal.invariant-loop-column
invariant-loop-column g l =
    let m = g.S.Sheet in
    let s = l.fn.sheet in
    ((best : ℕ) × (l.best ≡ nth l.columns best) × Leftmost m.before (λ j. m.at s l.row (nth l.columns j)) 0 (l.column-index + 1) best)
    × (l.least ≡ m.at s l.row l.best)
    × Read m (l.column-index + 1) s l.sheet
