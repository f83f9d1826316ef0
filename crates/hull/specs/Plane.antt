-- Corners in the plane: how far out they lie, how three of them turn, and how far apart two of them are.
use Rattle.std.specs.Prelude.{ℕ, List, ℤ, pos, negsuc, ◌+ℤ◌, ◌-ℤ◌, ◌*ℤ◌, ◌≤ℤ◌, ◌<ℤ◌, slice_index_or}
use Rattle.hull.specs.declared.corner.Corner.{Corner}

-- a coordinate is from -30,000 to 30,000
abbrev pub Coordinate : ℤ → Type 0
Coordinate z = (negsuc 29999 ≤ℤ z) × (z ≤ℤ pos 30000)

-- a corner is not too far out
abbrev pub Near : Corner → Type 0
Near p = Coordinate p.x × Coordinate p.y

-- twice the signed area of the triangle o p q
abbrev pub turn : Corner → Corner → Corner → ℤ
turn o p q = (p.x -ℤ o.x) *ℤ (q.y -ℤ o.y) -ℤ (p.y -ℤ o.y) *ℤ (q.x -ℤ o.x)

-- o, p, q turn left
abbrev pub Left : Corner → Corner → Corner → Type 0
Left o p q = pos 0 <ℤ turn o p q

-- the squared distance of p and q
abbrev pub distance : Corner → Corner → ℤ
distance p q = (p.x -ℤ q.x) *ℤ (p.x -ℤ q.x) +ℤ (p.y -ℤ q.y) *ℤ (p.y -ℤ q.y)

-- the corner at a place of a list
abbrev pub corner_at : List Corner → ℕ → Corner
corner_at cs i = slice_index_or cs i (record { x = pos 0; y = pos 0 })
