-- The columns so far are corners by now, and the others still stand.
use Rattle.std.proofs.Common.{◌≡◌, ℕ, ◌%◌, ◌<◌, ◌≤◌, get_or}
use Rattle.hull.proofs.farthest.bring_round.Given as goal

abbrev pub invariant-loop-column : goal.invariant-loop-column
invariant-loop-column l =
    ((k : ℕ) → k < l.column-index → get_or l.columns k 0 ≡ get_or l.initial.columns k 0 % l.n)
    × ((k : ℕ) → l.column-index ≤ k → get_or l.columns k 0 ≡ get_or l.initial.columns k 0)
