use Rattle.std.proofs.Common.{ℕ, ◌+◌, ◌*◌, ◌/◌, ◌^◌, ◌≤◌}
use Rattle.search.specs.Levels.{AllKept}
use Rattle.search.specs.Steps.{Read, KeptBeyond}
use Rattle.search.proofs.levels.lower.Given as goal

-- eight reads for each row that a level has fewer than the one before pay for making it
abbrev pub invariant-loop-depth : goal.invariant-loop-depth
invariant-loop-depth g l =
    let m = g.S.Sheet in
    AllKept m l.initial.sheet l.strip l.work l.depth
    × KeptBeyond l.strip l.initial.work l.work
    × ((n : ℕ) × (n + 8 * (l.strip.rows / 2 ^ l.depth) ≤ 8 * l.strip.rows) × Read m n l.initial.sheet l.sheet)
