-- How far the trail is written.
use Rattle.std.proofs.Common.{◌≡◌, ◌≤◌, ◌++◌, take, drop}
use Rattle.division.specs.Tables.{cut_at}
use Rattle.division.specs.Trails.{trail}
use Rattle.division.proofs.table.Table.follow.Given as goal

-- the first i ends are still to come, and the others of the s stand
abbrev pub invariant-loop-i : goal.invariant-loop-i
invariant-loop-i l =
    (l.i ≤ l.s)
    × (trail (cut_at l.self) l.s l.n ≡ trail (cut_at l.self) l.i l.j ++ drop l.i (take l.s l.ends))
    × (drop l.s l.ends ≡ drop l.s l.initial.ends)
