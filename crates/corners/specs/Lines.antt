-- How a line of text writes a corner.
use Rattle.std.specs.Prelude.{◌≡◌, ℕ, List, ◌∷◌, ◌++◌, ℤ, FitsSigned}
use Rattle.std.specs.Int.{w32}
use Rattle.std.specs.Str.Parse.{IsNumeral, without_leading_sign, signed_digits_value}
use Rattle.hull.specs.declared.corner.Corner.{Corner}

-- the text is a sign or none and then digits, and writes the whole number z, which fits 32 bits
pub record Writes (text : List ℕ) (z : ℤ) : Type 0 where
  pub digits : IsNumeral 10 (without_leading_sign text)
  pub fits : FitsSigned w32 (signed_digits_value 10 text)
  pub value : z ≡ signed_digits_value 10 text

-- the text writes a whole number
abbrev pub SomeNumber : List ℕ → Type 0
SomeNumber text = (z : ℤ) × Writes text z

-- the line is x, one space and y of the corner
pub record Written (line : List ℕ) (c : Corner) : Type 0 where
  pub x_text : List ℕ
  pub y_text : List ℕ
  pub one_space : line ≡ x_text ++ (32 ∷ y_text)
  pub x_is : Writes x_text c.x
  pub y_is : Writes y_text c.y

-- the line writes a corner
abbrev pub SomeCorner : List ℕ → Type 0
SomeCorner line = (c : Corner) × Written line c
