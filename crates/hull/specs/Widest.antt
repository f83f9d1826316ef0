-- The greatest swing of a hull.
use Rattle.std.specs.Prelude.{◌≡◌, ℕ, ◌<◌, List, length, ℤ, ◌≤ℤ◌, slice_index}
use Rattle.hull.specs.declared.corner.Corner.{Corner}
use Rattle.hull.specs.Plane.{distance, corner_at}
use Rattle.hull.specs.Farthest.{Farthest}

-- each corner's partner is a corner
abbrev pub Partnered : List Corner → List ℕ → Type 0
Partnered cs partners = (i : ℕ) → i < length cs → slice_index partners i < length cs

-- the squared distance of corner i and its partner
abbrev pub swing_of : List Corner → List ℕ → ℕ → ℤ
swing_of cs partners i = distance (corner_at cs i) (corner_at cs (slice_index partners i))

-- d is the greatest swing of the first m corners and their partners: one has it, and none has more
pub record Greatest (cs : List Corner) (partners : List ℕ) (m : ℕ) (d : ℤ) : Type 0 where
  pub holder : ℕ
  pub holder_in : holder < m
  pub has_it : d ≡ swing_of cs partners holder
  pub none_more : (i : ℕ) → i < m → swing_of cs partners i ≤ℤ d

-- each corner's partner is the corner farthest from it
abbrev pub AllFarthest : List Corner → List ℕ → Type 0
AllFarthest cs partners = (i : ℕ) → i < length cs → Farthest cs i (slice_index partners i)

-- d is the greatest squared distance of two corners: two are that far apart, and no two are farther
pub record Widest (cs : List Corner) (d : ℤ) : Type 0 where
  pub one : ℕ
  pub other : ℕ
  pub one_in : one < length cs
  pub other_in : other < length cs
  pub apart : d ≡ distance (corner_at cs one) (corner_at cs other)
  pub none_wider : (i j : ℕ) → i < length cs → j < length cs → distance (corner_at cs i) (corner_at cs j) ≤ℤ d
