-- What the rounds of a settle leave: the cells of the unsettled readings filled, and how often was weighed.
use Rattle.std.specs.Prelude.{◌≡◌, ℕ, suc, ◌+◌, ◌-◌, ◌*◌, ◌<◌, ◌≤◌, List, length, slice_index}
use Rattle.weighing.specs.declared.weighing.Weighing.{Ghosts}
use Rattle.division.specs.declared.table.Table.{Table}
use Rattle.division.specs.Fillings.{Filled}
use Rattle.division.specs.Tables.{tally_at, cut_at}
use Rattle.fit.specs.declared.rounds.Rounds.{Rounds}
use Rattle.fit.specs.Rounds.{SameWeighing, entry_of, ledger_of}

-- the weighing means what it meant, and at most `most` spans were weighed
pub record Weighed {W : Type 0} (m : Ghosts W) (v w : W) (most : ℕ) : Type 0 where
  pub same : SameWeighing m v w
  pub few : m.count w ≤ m.count v + most

-- some readings from `mark` on are held, and the lists have a place for each of them and four places of work
pub record Ahead {W : Type 0} (m : Ghosts W) (s : Rounds W) (mark : ℕ) (answers work : List ℕ) : Type 0 where
  pub some : mark < m.held s.weighing
  pub long : m.held s.weighing - mark ≤ length answers
  pub room : 4 * (m.held s.weighing - mark) ≤ length work

-- a cell of the table holds what it held
abbrev pub SameCell : Table → Table → ℕ → ℕ → Type 0
SameCell old new k j = (tally_at new k j ≡ tally_at old k j) × (cut_at new k j ≡ cut_at old k j)

-- a list from a place on is as it was
abbrev pub KeptFrom : ℕ → List ℕ → List ℕ → Type 0
KeptFrom place old new = (i : ℕ) → place ≤ i → slice_index new i ≡ slice_index old i

-- the entry of a row and a column was read and kept as the tally of the row's readings, with the column as last cut
pub record KeptOne {W : Type 0} (m : Ghosts W) (s t : Rounds W) (row column : ℕ) : Type 0 where
  pub weighed : Weighed m s.weighing t.weighing 1
  pub ledger_risen : ledger_of t ≡ ledger_of s + 1
  pub round_same : t.round ≡ s.round
  pub tally : tally_at t.table (suc s.round) (row + 1) ≡ entry_of m s row column
  pub cut : cut_at t.table (suc s.round) (row + 1) ≡ column
  pub others : (k j : ℕ) → ((k ≡ suc s.round) × (j ≡ row + 1) → ⊥) → SameCell s.table t.table k j

-- what was found for `many` rows from `mark` on was kept
pub record KeptAll {W : Type 0} (m : Ghosts W) (s t : Rounds W) (mark many : ℕ) (columns : List ℕ) : Type 0 where
  pub weighed : Weighed m s.weighing t.weighing many
  pub round_same : t.round ≡ s.round
  pub tallies : (i : ℕ) → i < many → tally_at t.table (suc s.round) (mark + i + 1) ≡ entry_of m s (mark + i) (slice_index columns i)
  pub cuts : (i : ℕ) → i < many → cut_at t.table (suc s.round) (mark + i + 1) ≡ slice_index columns i
  pub others : (k j : ℕ) → ((k ≡ suc s.round) × (mark < j) × (j ≤ mark + many) → ⊥) → SameCell s.table t.table k j

-- One round of a settle: the cells of k + 1 spans and more than `mark` readings are filled, all others as they were.
pub record RoundDone {W : Type 0} (m : Ghosts W) (s t : Rounds W) (k mark : ℕ) (answers answers' work work' : List ℕ) : Type 0 where
  pub weighed : Weighed m s.weighing t.weighing (4 * m.held s.weighing + 13 * (m.held s.weighing - mark))
  pub filled : (j : ℕ) → mark < j → j ≤ m.held s.weighing → Filled (m.weight s.weighing) t.table (m.held s.weighing) k j
  pub others : (p j : ℕ) → ((p ≡ suc k) × (mark < j) → ⊥) → SameCell s.table t.table p j
  pub answers_kept : KeptFrom (m.held s.weighing - mark) answers answers'
  pub work_kept : KeptFrom (4 * (m.held s.weighing - mark)) work work'

-- All rounds of a settle up to `limit` spans.
pub record RoundsDone {W : Type 0} (m : Ghosts W) (s t : Rounds W) (limit mark : ℕ) (answers answers' work work' : List ℕ) : Type 0 where
  pub weighed : Weighed m s.weighing t.weighing (limit * (4 * m.held s.weighing + 13 * (m.held s.weighing - mark)))
  pub filled : (k j : ℕ) → k < limit → mark < j → j ≤ m.held s.weighing → Filled (m.weight s.weighing) t.table (m.held s.weighing) k j
  pub settled_kept : (k j : ℕ) → j ≤ mark → SameCell s.table t.table k j
  pub answers_kept : KeptFrom (m.held s.weighing - mark) answers answers'
  pub work_kept : KeptFrom (4 * (m.held s.weighing - mark)) work work'
