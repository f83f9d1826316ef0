-- The meaning of the round sheet, and what reading it leaves.
use Rattle.std.specs.Prelude.{◌≡◌, ℕ, ◌+◌, ◌-◌, ◌^◌, ◌<◌, ◌≤◌}
use Rattle.weighing.specs.declared.weighing.Weighing.{Ghosts}
use Rattle.division.specs.declared.cost.Cost.{Cost}
use Rattle.division.specs.Rounds.{round_entry}
use Rattle.division.specs.Tables.{carried_at}
use Rattle.fit.specs.declared.rounds.Rounds.{Rounds}

-- row j - 1, column a: empty where a ≥ j or the tally of a readings is empty, else that tally and the weight of the span a..j
abbrev pub entry_of : {W : Type 0} → Ghosts W → Rounds W → ℕ → ℕ → Cost
entry_of m s i a = round_entry (m.weight s.weighing) (carried_at s.table s.round) (i + 1) a

-- how many entries were read, up to 2^63 - 1
abbrev pub ledger_of : {W : Type 0} → Rounds W → ℕ
ledger_of s = s.ledger.told

-- the weighing means what it meant, but for the count
pub record SameWeighing {W : Type 0} (m : Ghosts W) (v w : W) : Type 0 where
  pub held_same : m.held w ≡ m.held v
  pub weights_same : (a b : ℕ) → a < b → b ≤ m.held v → m.weight w a b ≡ m.weight v a b
  pub levels_same : (a b : ℕ) → a < b → b ≤ m.held v → m.level w a b ≡ m.level v a b
  pub verdicts_same : (reading : ℕ) → reading < 2 ^ 32 → m.verdict w reading ≡ m.verdict v reading
  pub top_same : m.top w ≡ m.top v
  pub count_risen : m.count v ≤ m.count w

-- What reading leaves: the table, the round and the weighing's meaning, but for the count, which rises by no more than
-- the ledger while that is below its top.
pub record Passing {W : Type 0} (m : Ghosts W) (s t : Rounds W) : Type 0 where
  pub table_same : t.table ≡ s.table
  pub round_same : t.round ≡ s.round
  pub weighing_same : SameWeighing m s.weighing t.weighing
  pub ledger_risen : ledger_of s ≤ ledger_of t
  pub counted : ledger_of t < 2 ^ 63 - 1 → m.count t.weighing + ledger_of s ≤ m.count s.weighing + ledger_of t
