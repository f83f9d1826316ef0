-- Readings that are kept with their running sums.
use Rattle.std.specs.Prelude.{ℕ, List, map}
use Rattle.rising.specs.declared.readings.Entry.{Entry}

-- the readings themselves
abbrev pub taken : List Entry → List ℕ
taken = map (λ e. e.reading)

-- the sum up to each, itself among them
abbrev pub sums : List Entry → List ℕ
sums = map (λ e. e.sum)
