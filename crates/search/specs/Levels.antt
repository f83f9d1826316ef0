-- The levels of a search: every stride-th row of the strip, and where the work list keeps the columns of each.
use Rattle.std.specs.Prelude.{◌≡◌, ℕ, ◌+◌, ◌-◌, ◌*◌, ◌/◌, ◌^◌, ◌<◌, ◌≤◌, List, length, slice_index}
use Rattle.search.specs.declared.sheet.Sheet.{Ghosts}
use Rattle.search.specs.declared.strip.Strip.{Strip}
use Rattle.search.specs.Search.{Fits}
use Rattle.search.specs.Grid.{Grid, Keeps}

-- what stands in a list
abbrev pub nth : List ℕ → ℕ → ℕ
nth xs j = slice_index xs j

-- and from `base` on
abbrev pub from : List ℕ → ℕ → ℕ → ℕ
from xs base j = slice_index xs (base + j)

-- the sheet's row that is row i of the level of every stride-th row
abbrev pub row_of : Strip → ℕ → ℕ → ℕ
row_of strip stride i = strip.row + ((i + 1) * stride - 1)

-- what that level looks at
abbrev pub every : {S E : Type 0} → Ghosts S E → S → Strip → ℕ → Grid E
every m s strip stride = record {
  before = m.before;
  entry = λ i c. m.at s (row_of strip stride i) c;
  rows = strip.rows / stride;
  first = strip.column;
  columns = strip.columns;
}

-- its columns stand in the work list from here on, and behind their room stands how many they are
abbrev pub base_of : Strip → ℕ → ℕ
base_of strip stride = 3 * (strip.rows - strip.rows / stride)

abbrev pub many : List ℕ → Strip → ℕ → ℕ
many work strip stride = slice_index work (base_of strip stride + strip.rows / stride)

-- a list of the columns that the level keeps
pub record Shown (strip : Strip) (stride : ℕ) (work columns : List ℕ) : Type 0 where
  pub count : length columns ≡ many work strip stride
  pub same : (j : ℕ) → j < many work strip stride → nth columns j ≡ from work (base_of strip stride) j

-- the work list has the columns that the level keeps
abbrev pub Kept : {S E : Type 0} (m : Ghosts S E) (s : S) (strip : Strip) (stride : ℕ) (work : List ℕ) → Type 0
Kept m s strip stride work = Keeps (every m s strip stride) (from work (base_of strip stride)) (many work strip stride)

-- the work list has the columns of every level down to that of stride 2^e
abbrev pub AllKept : {S E : Type 0} → Ghosts S E → S → Strip → List ℕ → ℕ → Type 0
AllKept m s strip work e = (d : ℕ) → d ≤ e → Kept m s strip (2 ^ d) work

-- the level of stride 2^e has one row, so none is below it
pub record OneRow (strip : Strip) (e : ℕ) : Type 0 where
  pub some : 2 ^ e ≤ strip.rows
  pub no_more : strip.rows < 2 ^ e * 2

-- the strip lies inside the sheet, and there is room for the columns of all its levels
pub record Ready {S E : Type 0} (m : Ghosts S E) (s : S) (strip : Strip) (work : List ℕ) : Type 0 where
  pub fits : Fits m s strip
  pub room : 4 * strip.rows ≤ length work
