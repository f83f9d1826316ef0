-- What each step of the search leaves.
use Rattle.std.specs.Prelude.{◌≡◌, ℕ, ◌+◌, ◌-◌, ◌*◌, ◌/◌, ◌<◌, ◌≤◌, false, List, length, slice_index}
use Rattle.search.specs.declared.sheet.Sheet.{Ghosts}
use Rattle.search.specs.declared.strip.Strip.{Strip}
use Rattle.search.specs.declared.level.Level.{Level}
use Rattle.search.specs.Reading.{Place, Reads}
use Rattle.search.specs.Least.{Leftmost}
use Rattle.search.specs.Search.{Fits, BestInRow}
use Rattle.search.specs.Grid.{Grid, Answer, Stack, Keeps}
use Rattle.search.specs.Levels.{nth, every, base_of, Kept, AllKept, OneRow}

abbrev pub HasPlace : {S E : Type 0} → Ghosts S E → S → ℕ → ℕ → Type 0
HasPlace m s row column = Place m.rows m.columns s row column

-- t is what n reads make of s
abbrev pub Read : {S E : Type 0} → Ghosts S E → ℕ → S → S → Type 0
Read m n s t = Reads m.rows m.columns m.at m.ledger m.passes n s t

-- t is what some reads, at most `most`, make of s
abbrev pub ReadWithin : {S E : Type 0} → Ghosts S E → ℕ → S → S → Type 0
ReadWithin m most s t = (n : ℕ) × (n ≤ most) × Read m n s t

-- the grid of a level
abbrev pub grid_of : {S E : Type 0} → Ghosts S E → S → Level → Grid E
grid_of m s level = every m s level.strip level.stride

-- the level lies inside the sheet, and its room has places for its columns and their number
pub record Stands {S E : Type 0} (m : Ghosts S E) (s : S) (level : Level) (room : List ℕ) : Type 0 where
  pub fits : Fits m s level.strip
  pub long : level.rows < length room

-- from place n on the list is as it was
abbrev pub KeptFrom : List ℕ → List ℕ → ℕ → Type 0
KeptFrom old new n = (j : ℕ) → n ≤ j → slice_index new j ≡ slice_index old j

-- what is left of the stack once a column has driven out those that it beats
pub record Driven {S E : Type 0} (m : Ghosts S E) (s t : S) (level : Level) (room : List ℕ) (len column top : ℕ) : Type 0 where
  pub fewer : top ≤ len
  pub stack : Stack (grid_of m s level) (nth room) top column
  pub lost : 0 < top → (grid_of m s level).before ((grid_of m s level).entry (top - 1) column) ((grid_of m s level).entry (top - 1) (nth room (top - 1))) ≡ false
  pub reads : ReadWithin m (2 * (len - top) + 2) s t

-- the stack once a column has been offered; two reads are paid for by each column that is put on it
pub record Offered {S E : Type 0} (m : Ghosts S E) (s t : S) (level : Level) (old new : List ℕ) (len column top : ℕ) : Type 0 where
  pub stack : Stack (grid_of m s level) (nth new) top (column + 1)
  pub beyond : KeptFrom old new level.rows
  pub reads : (n : ℕ) × (n + 2 * top ≤ 2 * len + 4) × Read m n s t

-- A level's room once `count` columns have been offered, which have all answers among them. The level of every stride-th row
-- keeps some of them, and behind their room stands how many.
pub record Reduced {S E : Type 0} (m : Ghosts S E) (s t : S) (strip : Strip) (stride : ℕ) (old new : List ℕ) (count : ℕ) : Type 0 where
  pub kept : Keeps (every m s strip stride) (nth new) (nth new (strip.rows / stride))
  pub beyond : KeptFrom old new (strip.rows / stride + 1)
  pub reads : ReadWithin m (4 * count) s t

-- Of some columns the one at place `end` is the first that reaches `last`, or the last of all.
pub record Reaches (columns : List ℕ) (last end : ℕ) : Type 0 where
  pub high : end < length columns
  pub stop : end + 1 < length columns → last ≤ nth columns end
  pub gap : (j : ℕ) → j < end → nth columns j < last

-- among some columns a row has its leftmost least entry in column c
pub record Scanned {S E : Type 0} (m : Ghosts S E) (s t : S) (columns : List ℕ) (row c : ℕ) : Type 0 where
  pub least : (best : ℕ) × (c ≡ nth columns best) × Leftmost m.before (λ j. m.at s row (nth columns j)) 0 (length columns) best
  pub reads : Read m (length columns) s t

-- the answers of a level stand at their rows' places, and the list is as it was behind the level's rows
pub record Filled {S E : Type 0} (m : Ghosts S E) (s t : S) (strip : Strip) (stride len : ℕ) (old new : List ℕ) : Type 0 where
  pub answers : (i : ℕ) → i < strip.rows / stride → Answer (every m s strip stride) i (slice_index new ((i + 1) * stride - 1))
  pub beyond : KeptFrom old new (strip.rows / stride * stride)
  pub reads : (n : ℕ) × (n + 1 ≤ len + (strip.rows / stride - strip.rows / stride / 2)) × Read m n s t

-- the work list as it was behind its first 4r places
abbrev pub KeptBeyond : Strip → List ℕ → List ℕ → Type 0
KeptBeyond strip old new = KeptFrom old new (4 * strip.rows)

-- one level more
pub record Deepened {S E : Type 0} (m : Ghosts S E) (s t : S) (strip : Strip) (stride : ℕ) (old new : List ℕ) : Type 0 where
  pub kept : Kept m s strip (stride * 2) new
  pub same : (j : ℕ) → j < base_of strip (stride * 2) → slice_index new j ≡ slice_index old j
  pub beyond : KeptBeyond strip old new
  pub reads : ReadWithin m (4 * (strip.rows / stride)) s t

-- the first level
pub record Started {S E : Type 0} (m : Ghosts S E) (s t : S) (strip : Strip) (old new : List ℕ) : Type 0 where
  pub kept : Kept m s strip 1 new
  pub beyond : KeptBeyond strip old new
  pub reads : ReadWithin m (4 * strip.columns) s t

-- all levels, of which that of stride 2^e is the last
pub record Lowered {S E : Type 0} (m : Ghosts S E) (s t : S) (strip : Strip) (e : ℕ) (old new : List ℕ) : Type 0 where
  pub one : OneRow strip e
  pub levels : AllKept m s strip new e
  pub beyond : KeptBeyond strip old new
  pub reads : ReadWithin m (8 * strip.rows) s t

-- each row's answer stands at the row's place
pub record Raised {S E : Type 0} (m : Ghosts S E) (s t : S) (strip : Strip) (old new : List ℕ) : Type 0 where
  pub found : (i : ℕ) → i < strip.rows → BestInRow m s strip i (slice_index new i)
  pub beyond : KeptFrom old new strip.rows
  pub reads : ReadWithin m (3 * strip.rows) s t
