-- Each partner so far is a corner, and the greatest of their swings is held; 0 before the first.
use Rattle.std.proofs.Common.{ℕ, ◌<◌, length, get_or}
use Rattle.hull.specs.Hulls.{corners_of}
use Rattle.hull.proofs.Swinging.{GreatestSoFar}
use Rattle.hull.proofs.table.Hull.greatest_swing.Given as goal

abbrev pub invariant-loop-i : goal.invariant-loop-i
invariant-loop-i l =
    ((k : ℕ) → k < l.i → get_or l.partners k 0 < length (corners_of l.self))
    × GreatestSoFar (corners_of l.self) l.partners l.i l.greatest
