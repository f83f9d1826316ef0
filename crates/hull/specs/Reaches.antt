-- The sheet of a hull: in row i, from column i + 1 on, the squared distances from corner i to each corner in turn, once around.
use Rattle.std.specs.Prelude.{ℕ, ◌+◌, ◌-◌, ◌*◌, ◌%◌, ◌<◌, cond, List, length, ℤ, pos, negsuc, ◌-ℤ◌, ◌≤ℤ◌, nat_le, nat_lt}
use Rattle.hull.specs.declared.corner.Corner.{Corner}
use Rattle.hull.specs.Plane.{distance, corner_at}

-- row i, column j: the distance of corner i and corner j mod n where i < j < i + n, j - i left of that, and -1 right of it
unfoldable pub reach : List Corner → ℕ → ℕ → ℤ
reach cs i j =
    cond (nat_le j i) (pos j -ℤ pos i)
    (cond (nat_lt j (i + length cs)) (distance (corner_at cs i) (corner_at cs (j % length cs))) (negsuc 0))

-- every entry of the sheet is from -511 to 7,200,000,000
abbrev pub ReachesWithin : List Corner → Type 0
ReachesWithin cs = (i j : ℕ) → i < length cs → j < 2 * length cs - 1 → (negsuc 510 ≤ℤ reach cs i j) × (reach cs i j ≤ℤ pos 7200000000)
