-- The entries of a sheet of blocks, and the shapes that one may have.
use Rattle.std.specs.Prelude.{ℕ, ◌+◌, ◌-◌, ◌*◌, ◌/◌, min, max}
use Rattle.search_tests.specs.declared.blocks.Gap.{Gap}
use Rattle.search_tests.specs.declared.blocks.Shape.{Shape}

-- how far two numbers lie apart
abbrev pub gap : ℕ → ℕ → ℕ
gap a b = (a - b) + (b - a)

-- the entry of row i and column j, where `tall` rows and `wide` columns make a block
abbrev pub gap_at : ℕ → ℕ → ℕ → ℕ → Gap
gap_at tall wide i j = record { square = gap (i / tall) (j / wide) * gap (i / tall) (j / wide); column = j }

-- a shape cut to what a sheet may have: 512 rows, 1,023 columns, and something in each block
abbrev pub within : Shape → Shape
within s = record { rows = min s.rows 512; columns = min s.columns 1023; tall = max s.tall 1; wide = max s.wide 1 }
