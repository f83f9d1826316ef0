-- What it means to read a sheet: which places it has, and what a number of reads leave of it.
use Rattle.std.specs.Prelude.{◌≡◌, ℕ, ◌+◌, ◌-◌, ◌^◌, ◌<◌, min}

-- the sheet has this row and this column
pub record Place {S : Type 0} (rows columns : S → ℕ) (s : S) (row column : ℕ) : Type 0 where
  pub row_in : row < rows s
  pub column_in : column < columns s

-- t is what n reads make of s: the ledger has risen by n, up to 2^63 - 1, and the rest of the meaning stands
pub record Reads {S E : Type 0} (rows columns : S → ℕ) (at : S → ℕ → ℕ → E) (ledger : S → ℕ) (passes : S → S → Type 0) (n : ℕ) (s t : S) : Type 0 where
  pub rows_same : rows t ≡ rows s
  pub columns_same : columns t ≡ columns s
  pub at_same : (i j : ℕ) → i < rows s → j < columns s → at t i j ≡ at s i j
  pub ledger_risen : ledger t ≡ min (ledger s + n) (2 ^ 63 - 1)
  pub passed : passes s t
