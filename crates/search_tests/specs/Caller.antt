-- What the caller of the search promises of one row of a sheet.
use Rattle.std.specs.Prelude.{◌≡◌, ℕ, ◌+◌, ◌*◌, ◌<◌, ◌≤◌, Ok, Err, Result}
use Rattle.search.specs.declared.sheet.Sheet.{Ghosts}
use Rattle.search.specs.Least.{Leftmost}
use Rattle.refusal.specs.declared.Refusal.{Refusal}
use Rattle.refusal.specs.Rules.{Broken, NoOther}

-- the sheet has this row, and something in it
pub record HasRow {S E : Type 0} (m : Ghosts S E) (s : S) (row : ℕ) : Type 0 where
  pub row_in : row < m.rows s
  pub some : 0 < m.columns s

-- The column of the leftmost least entry of the row is answered, for at most 4c + 12 reads, or the row is refused.
abbrev pub RowAnswered : {S E : Type 0} → Ghosts S E → ℕ → S → S → Result ℕ Refusal → Type 0
RowAnswered m row s t (Ok c) =
    HasRow m s row × Leftmost m.before (m.at s row) 0 (m.columns s) c × (m.ledger t ≤ m.ledger s + (4 * m.columns s + 12)) × m.passes s t
RowAnswered m row s t (Err why) = Broken (HasRow m s row) 10 NoOther why × (t ≡ s)
