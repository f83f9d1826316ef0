use Rattle.std.proofs.Common.{ℕ, ◌+◌, ◌*◌, ◌/◌, ◌<◌, ◌≤◌, length}
use Rattle.search.specs.Levels.{nth}
use Rattle.search.specs.Steps.{Read, KeptFrom, grid_of}
use Rattle.search.proofs.Scans.{OddRows, EvenRows, Starts}
use Rattle.search.proofs.scan.fill.Given as goal

abbrev pub invariant-loop-p : goal.invariant-loop-p
invariant-loop-p g l =
    let m = g.S.Sheet in
    let G = grid_of m l.initial.sheet l.level in
    (l.place < length l.kept)
    × EvenRows G l.level.stride l.answers l.p
    × OddRows G l.level.stride l.answers
    × Starts G (nth l.kept) l.p l.place
    × KeptFrom l.initial.answers l.answers (l.level.strip.rows / l.level.stride * l.level.stride)
    × ((n : ℕ) × (n ≤ l.place + l.p) × Read m n l.initial.sheet l.sheet)
