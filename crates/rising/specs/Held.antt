-- The readings that a weighing holds.
use Rattle.std.specs.Prelude.{ℕ, List, slice_index, take, drop}
use Rattle.weighing.specs.declared.weighing.Weighing.{Ghosts}
use Rattle.rising.specs.declared.readings.Entry.{Entry}
use Rattle.rising.specs.declared.readings.Readings.{Readings}
use Rattle.rising.specs.declared.row.Row.{Row}
use Rattle.rising.specs.Entries.{taken}
use Rattle.rising.specs.Rows.{rising_meaning}

-- the entries of the readings held, first to last: those behind the first entry
abbrev pub entries_of : Readings → List Entry
entries_of r = take r.n (drop 1 r.entries)

-- the list of readings held, first to last
abbrev pub readings : Readings → List ℕ
readings r = taken (entries_of r)

module _ {H : Type 0} where
  -- the list of readings that a row holds
  abbrev pub row_readings : Row H → List ℕ
  row_readings s = readings s.readings

  -- how many of its spans were weighed
  abbrev pub row_count : Row H → ℕ
  row_count s = s.weighs.told

  -- what a row means whose spans are held at these places and weigh so much
  abbrev pub row_meaning : (ℕ → ℕ → ℕ) → (List ℕ → ℕ → ℕ → ℕ) → Ghosts (Row H)
  row_meaning place weight = rising_meaning row_readings weight (λ x a b. slice_index x (place a b)) row_count
