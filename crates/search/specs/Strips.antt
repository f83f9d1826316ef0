-- When a strip lies inside a sheet.
use Rattle.std.specs.Prelude.{ℕ, ◌+◌, ◌<◌, ◌≤◌}
use Rattle.search.specs.declared.strip.Strip.{Strip}

-- the strip has a row and a column, and does not pass the edge of a sheet of this many rows and columns
pub record Inside (strip : Strip) (rows columns : ℕ) : Type 0 where
  pub some_row : 0 < strip.rows
  pub some_column : 0 < strip.columns
  pub rows_in : strip.row + strip.rows ≤ rows
  pub columns_in : strip.column + strip.columns ≤ columns
