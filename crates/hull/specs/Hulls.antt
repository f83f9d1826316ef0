-- A hull is the list of its corners.
use Rattle.std.specs.Prelude.{◌≡◌, ℕ, ◌<◌, List, [], ◌∷◌, length, take, pos}
use Rattle.hull.specs.declared.corner.Corner.{Corner}
use Rattle.hull.specs.declared.table.Hull.{Hull}
use Rattle.hull.specs.Convex.{Enough, AllNear, AllLeft}

-- the corners of a hull
abbrev pub corners_of : Hull → List Corner
corners_of h = take h.len h.table

-- the hull has a corner of this number
abbrev pub Numbered : Hull → ℕ → Type 0
Numbered h i = i < length (corners_of h)

-- the corners of a new hull
abbrev pub triangle : List Corner
triangle = record { x = pos 0; y = pos 0 } ∷ record { x = pos 1; y = pos 0 } ∷ record { x = pos 0; y = pos 1 } ∷ []

-- the corners given make a hull, h holds exactly them, and there are n
pub record SetTo (given : List Corner) (h : Hull) (n : ℕ) : Type 0 where
  pub enough : Enough given
  pub near : AllNear given
  pub left : AllLeft given
  pub held : corners_of h ≡ given
  pub many : n ≡ length given
