-- The middle weighing: a span is held at its middle reading.
use Rattle.std.specs.Prelude.{ℕ, ◌+◌, ◌/◌, List, slice_index}
use Rattle.weighing.specs.declared.weighing.Weighing.{Ghosts}
use Rattle.weighing.specs.Distance.{apart}
use Rattle.rising.specs.declared.middle.AtMiddle.{AtMiddle}
use Rattle.rising.specs.declared.row.Row.{Row}
use Rattle.rising.specs.Held.{row_readings, row_count}
use Rattle.rising.specs.Sums.{over_span}
use Rattle.rising.specs.Rows.{rising_meaning}

-- the reading in the middle of the span a..b; of two, the later
abbrev pub middle_level : List ℕ → ℕ → ℕ → ℕ
middle_level x a b = slice_index x ((a + b) / 2)

-- how far the readings of the span lie from its level, in all
abbrev pub middle_weight : List ℕ → ℕ → ℕ → ℕ
middle_weight x a b = over_span (λ i. apart (slice_index x i) (middle_level x a b)) a b

-- a row held at its spans' middle readings
abbrev pub Middle : Type 0
Middle = Row AtMiddle

-- the list x of readings held
abbrev pub middle_readings : Middle → List ℕ
middle_readings = row_readings

-- how many spans were weighed
abbrev pub middle_count : Middle → ℕ
middle_count = row_count

-- what a middle weighing means
abbrev pub middle_meaning : Ghosts Middle
middle_meaning = rising_meaning middle_readings middle_weight middle_level middle_count
