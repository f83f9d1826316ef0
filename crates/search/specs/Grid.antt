-- Grids: the rows and columns that one level of the search looks at, and the columns that it keeps of them.
use Rattle.std.specs.Prelude.{◌≡◌, ℕ, ◌+◌, ◌<◌, ◌≤◌, Bool, false}
use Rattle.search.specs.Least.{Leftmost}

-- `rows` rows of entries, of which `columns` columns from `first` on are looked at
pub record Grid (E : Type 0) : Type 0 where
  pub before : E → E → Bool
  pub entry : ℕ → ℕ → E
  pub rows : ℕ
  pub first : ℕ
  pub columns : ℕ

-- row i of the grid has its leftmost least entry in column c
abbrev pub Answer : {E : Type 0} → Grid E → ℕ → ℕ → Type 0
Answer G i c = Leftmost G.before (G.entry i) G.first G.columns c

-- the grid looks at column c
pub record Column {E : Type 0} (G : Grid E) (c : ℕ) : Type 0 where
  pub low : G.first ≤ c
  pub high : c < G.first + G.columns

-- The columns st 0 .. st (count - 1) rise, and the answer of every row is among them.
pub record Holds {E : Type 0} (G : Grid E) (st : ℕ → ℕ) (count : ℕ) : Type 0 where
  pub rising : (j : ℕ) → j + 1 < count → st j < st (j + 1)
  pub within : (j : ℕ) → j < count → Column G (st j)
  pub kept : (i c : ℕ) → i < G.rows → Answer G i c → (j : ℕ) × (j < count) × (st j ≡ c)

-- what a level keeps of the columns that it looks at: some, no more than it has rows, and the answer of every row among them
pub record Keeps {E : Type 0} (G : Grid E) (st : ℕ → ℕ) (count : ℕ) : Type 0 where
  pub holds : Holds G st count
  pub few : count ≤ G.rows
  pub some : 0 < count

-- The stack of a reduction that has come to column `next`: its columns rise, the one at place j + 1 loses to the one below it
-- in row j, and every answer to the left of `next` is in the stack.
pub record Stack {E : Type 0} (G : Grid E) (st : ℕ → ℕ) (len next : ℕ) : Type 0 where
  pub fits : len ≤ G.rows
  pub inside : next ≤ G.first + G.columns
  pub rising : (j : ℕ) → j + 1 < len → st j < st (j + 1)
  pub low : (j : ℕ) → j < len → G.first ≤ st j
  pub below : (j : ℕ) → j < len → st j < next
  pub loses : (j : ℕ) → j + 1 < len → G.before (G.entry j (st (j + 1))) (G.entry j (st j)) ≡ false
  pub kept : (i c : ℕ) → i < G.rows → Answer G i c → c < next → (j : ℕ) × (j < len) × (st j ≡ c)
