-- How rounds fill a table, and when it stays right.
use Rattle.std.specs.Prelude.{◌≡◌, ℕ, suc, ◌-◌, ◌^◌, ◌<◌, ◌≤◌}
use Rattle.search.specs.Least.{Leftmost}
use Rattle.division.specs.declared.table.Table.{Table}
use Rattle.division.specs.Costs.{before}
use Rattle.division.specs.Rounds.{round_entry}
use Rattle.division.specs.Tables.{tally_at, cut_at, carried_at, Right}

-- no span of the first n readings weighs more than 2^59 - 1
abbrev pub Light : (ℕ → ℕ → ℕ) → ℕ → Type 0
Light weight n = (a b : ℕ) → a < b → b ≤ n → weight a b ≤ 2 ^ 59 - 1

-- every span of the first n readings weighs the same
abbrev pub SameSpans : (ℕ → ℕ → ℕ) → (ℕ → ℕ → ℕ) → ℕ → Type 0
SameSpans weight other n = (a b : ℕ) → a < b → b ≤ n → weight a b ≡ other a b

-- the two tables agree up to `rounds` spans and n readings
abbrev pub SameCells : Table → Table → ℕ → ℕ → Type 0
SameCells t u rounds n = (k j : ℕ) → k ≤ rounds → j ≤ n → (tally_at u k j ≡ tally_at t k j) × (cut_at u k j ≡ cut_at t k j)

-- the cell of k + 1 spans and j readings holds the leftmost least of the entries over n columns, and its column
pub record Filled (weight : ℕ → ℕ → ℕ) (t : Table) (n k j : ℕ) : Type 0 where
  pub least : Leftmost before (round_entry weight (carried_at t k) j) 0 n (cut_at t (suc k) j)
  pub put : tally_at t (suc k) j ≡ round_entry weight (carried_at t k) j (cut_at t (suc k) j)

-- a table that is right for m readings, and filled from there to n, is right for n
abbrev pub FillingsStand : Type 0
FillingsStand = (weight : ℕ → ℕ → ℕ) (t : Table) (rounds m n : ℕ)
    → rounds ≤ 8
    → Light weight n
    → Right weight t rounds m
    → ((k j : ℕ) → k < rounds → m < j → j ≤ n → Filled weight t n k j)
    → Right weight t rounds n

-- a table that is right stays so for fewer readings, under weights that agree on them, and so does one that agrees on its cells
abbrev pub TablesStay : Type 0
TablesStay = (weight other : ℕ → ℕ → ℕ) (t u : Table) (rounds m n : ℕ)
    → m ≤ n
    → SameSpans weight other m
    → SameCells t u rounds m
    → Right weight t rounds n
    → Right other u rounds m
