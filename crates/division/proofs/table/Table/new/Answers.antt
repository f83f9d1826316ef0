-- An array of zeros is a fresh table.
use Rattle.division.proofs.Tables.{empty, fresh_cells, fresh_right}
use Rattle.division.proofs.table.Table.new.Goals as goal

pub returns : goal.returns
returns c = record { value = fresh_cells; right = λ weight rounds. fresh_right weight empty rounds fresh_cells }
