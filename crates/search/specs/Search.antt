-- What a search of a strip promises.
use Rattle.std.specs.Prelude.{◌≡◌, ℕ, ◌+◌, ◌*◌, ◌<◌, ◌≤◌, List, length, Ok, Err, Result, slice_index}
use Rattle.search.specs.declared.sheet.Sheet.{Ghosts}
use Rattle.search.specs.declared.strip.Strip.{Strip}
use Rattle.search.specs.Strips.{Inside}
use Rattle.search.specs.Least.{Leftmost}
use Rattle.refusal.specs.declared.Refusal.{Refusal}
use Rattle.refusal.specs.Rules.{Broken, NoOther}

-- the strip lies inside the sheet
abbrev pub Fits : {S E : Type 0} → Ghosts S E → S → Strip → Type 0
Fits m s strip = Inside strip (m.rows s) (m.columns s)

-- there is a place for each answer, and four places of work for each row
pub record Long (strip : Strip) (answers work : List ℕ) : Type 0 where
  pub for_answers : strip.rows ≤ length answers
  pub for_work : 4 * strip.rows ≤ length work

-- row t of the strip has its leftmost least entry in column c of the sheet
abbrev pub BestInRow : {S E : Type 0} (m : Ghosts S E) (s : S) (strip : Strip) (t c : ℕ) → Type 0
BestInRow m s strip t c = Leftmost m.before (m.at s (strip.row + t)) strip.column strip.columns c

-- What a search that is answered leaves. Nothing is said of the first 4r work places: they are free.
pub record Searched {S E : Type 0} (m : Ghosts S E) (strip : Strip) (s t : S) (answers answers' work work' : List ℕ) (told : ℕ) : Type 0 where
  pub found : (i : ℕ) → i < strip.rows → BestInRow m s strip i (slice_index answers' i)
  pub only : (i c : ℕ) → i < strip.rows → BestInRow m s strip i c → c ≡ slice_index answers' i
  pub answers_kept : (i : ℕ) → strip.rows ≤ i → slice_index answers' i ≡ slice_index answers i
  pub work_kept : (i : ℕ) → 4 * strip.rows ≤ i → slice_index work' i ≡ slice_index work i
  pub few : told ≤ 4 * strip.columns + 12 * strip.rows
  pub ledger_risen : m.ledger t ≡ m.ledger s + told
  pub rows_same : m.rows t ≡ m.rows s
  pub columns_same : m.columns t ≡ m.columns s
  pub at_same : (i j : ℕ) → i < m.rows s → j < m.columns s → m.at t i j ≡ m.at s i j
  pub passed : m.passes s t

-- How a search is answered or refused: the strip first, then the lists. A refusal leaves everything as it was.
abbrev pub SearchDid : {S E : Type 0} → Ghosts S E → Strip → S → S → List ℕ → List ℕ → List ℕ → List ℕ → Result ℕ Refusal → Type 0
SearchDid m strip s t answers answers' work work' (Ok told) = Fits m s strip × Long strip answers work × Searched m strip s t answers answers' work work' told
SearchDid m strip s t answers answers' work work' (Err why) =
    Broken (Fits m s strip) 10 (Broken (Long strip answers work) 9 NoOther) why × (t ≡ s) × (answers' ≡ answers) × (work' ≡ work)
