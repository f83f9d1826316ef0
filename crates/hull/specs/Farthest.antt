-- The farthest corner from each corner of a hull.
use Rattle.std.specs.Prelude.{◌≡◌, ℕ, ◌+◌, ◌-◌, ◌*◌, ◌%◌, ◌<◌, ◌≤◌, List, length, ◌≤ℤ◌, ◌<ℤ◌, Ok, Err, Result, slice_index}
use Rattle.refusal.specs.declared.Refusal.{Refusal}
use Rattle.refusal.specs.Rules.{Broken, NoOther}
use Rattle.hull.specs.declared.corner.Corner.{Corner}
use Rattle.hull.specs.Plane.{distance, corner_at}

-- how many steps counterclockwise lead from corner i to corner j of n
abbrev pub steps : ℕ → ℕ → ℕ → ℕ
steps n i j = (j + n - i) % n

-- Corner q is the farthest from corner i: no corner is farther, and each that is met before q, counterclockwise from i, is nearer.
pub record Farthest (cs : List Corner) (i q : ℕ) : Type 0 where
  pub there : q < length cs
  pub none_farther : (j : ℕ) → j < length cs → distance (corner_at cs i) (corner_at cs j) ≤ℤ distance (corner_at cs i) (corner_at cs q)
  pub first_met : (j : ℕ) → j < length cs → steps (length cs) i j < steps (length cs) i q → distance (corner_at cs i) (corner_at cs j) <ℤ distance (corner_at cs i) (corner_at cs q)

-- there is a place for each answer, and four places of work for each corner
pub record Room (cs : List Corner) (answers work : List ℕ) : Type 0 where
  pub for_answers : length cs ≤ length answers
  pub for_work : 4 * length cs ≤ length work

-- What a search for the farthest corners leaves: an answer for each corner, and the places after these as they were.
-- The first 4n work places are free: nothing is said of them.
pub record Answered (cs : List Corner) (answers answers' work work' : List ℕ) (told : ℕ) : Type 0 where
  pub found : (i : ℕ) → i < length cs → Farthest cs i (slice_index answers' i)
  pub only : (i q : ℕ) → i < length cs → Farthest cs i q → q ≡ slice_index answers' i
  pub answers_kept : (i : ℕ) → length cs ≤ i → slice_index answers' i ≡ slice_index answers i
  pub work_kept : (i : ℕ) → 4 * length cs ≤ i → slice_index work' i ≡ slice_index work i
  pub few : told ≤ 20 * length cs - 4

-- How it is answered or refused. A refusal leaves both lists as they were.
abbrev pub FarthestDid : List Corner → List ℕ → List ℕ → List ℕ → List ℕ → Result ℕ Refusal → Type 0
FarthestDid cs answers answers' work work' (Ok told) = Room cs answers work × Answered cs answers answers' work work' told
FarthestDid cs answers answers' work work' (Err why) = Broken (Room cs answers work) 9 NoOther why × (answers' ≡ answers) × (work' ≡ work)
