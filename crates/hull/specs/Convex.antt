-- What corners must be to make a hull.
use Rattle.std.specs.Prelude.{ℕ, ◌<◌, ◌≤◌, List, length}
use Rattle.hull.specs.declared.corner.Corner.{Corner}
use Rattle.hull.specs.Plane.{Near, Left, corner_at}

-- there are 3 to 512 corners
abbrev pub Enough : List Corner → Type 0
Enough cs = (3 ≤ length cs) × (length cs ≤ 512)

-- no corner is too far out
abbrev pub AllNear : List Corner → Type 0
AllNear cs = (i : ℕ) → i < length cs → Near (corner_at cs i)

-- strictly convex and counterclockwise: every three corners with rising numbers turn left
abbrev pub AllLeft : List Corner → Type 0
AllLeft cs = (i j k : ℕ) → (i < j) × (j < k) × (k < length cs) → Left (corner_at cs i) (corner_at cs j) (corner_at cs k)

-- three corners in a row pass three tests: the last turns left from the first side, each side turns left from the first corner, and the three turn left
abbrev pub Passes : Corner → Corner → List Corner → Type 0
Passes first second bend =
    Left first second (corner_at bend 2) × Left first (corner_at bend 1) (corner_at bend 2) × Left (corner_at bend 0) (corner_at bend 1) (corner_at bend 2)
