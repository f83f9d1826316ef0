-- The ceiling weighing: a span is held at its last reading.
use Rattle.std.specs.Prelude.{ℕ, ◌-◌, List, slice_index}
use Rattle.weighing.specs.declared.weighing.Weighing.{Ghosts}
use Rattle.rising.specs.declared.ceiling.AtLast.{AtLast}
use Rattle.rising.specs.declared.row.Row.{Row}
use Rattle.rising.specs.Held.{row_readings, row_count}
use Rattle.rising.specs.Sums.{over_span}
use Rattle.rising.specs.Rows.{rising_meaning}

-- the last reading of the span a..b
abbrev pub ceiling_level : List ℕ → ℕ → ℕ → ℕ
ceiling_level x a b = slice_index x (b - 1)

-- by how much the readings of the span lie below its level, in all
abbrev pub ceiling_weight : List ℕ → ℕ → ℕ → ℕ
ceiling_weight x a b = over_span (λ i. ceiling_level x a b - slice_index x i) a b

-- a row held at its spans' last readings
abbrev pub Ceiling : Type 0
Ceiling = Row AtLast

-- the list x of readings held
abbrev pub ceiling_readings : Ceiling → List ℕ
ceiling_readings = row_readings

-- how many spans were weighed
abbrev pub ceiling_count : Ceiling → ℕ
ceiling_count = row_count

-- what a ceiling weighing means
abbrev pub ceiling_meaning : Ghosts Ceiling
ceiling_meaning = rising_meaning ceiling_readings ceiling_weight ceiling_level ceiling_count
