-- Whole runs of a fit: what was called and answered since it was opened, and what the next call then answers.
use Rattle.std.specs.Prelude.{◌≡◌, ℕ, ◌+◌, ◌-◌, ◌*◌, ◌<◌, ◌≤◌, Bool, true, false, cond, List, [], ◌∷◌, map, length, drop, replicate, Ok, Err, Result}
use Rattle.refusal.specs.declared.Refusal.{Refusal}
use Rattle.refusal.specs.Rules.{Broken, NoOther}
use Rattle.weighing.specs.declared.weighing.Weighing.{Ghosts}
use Rattle.division.specs.declared.table.Told.{Told}
use Rattle.division.specs.Divisions.{Least}
use Rattle.division.specs.Divide.{Answered, BestFits}
use Rattle.fit.specs.declared.fit.Fit.{Fit}
use Rattle.runs.specs.declared.step.Call.{Call}
use Rattle.runs.specs.declared.step.Call.TheVariants.{Take, Drop, Wipe, Settle, Divide, Exact}
use Rattle.runs.specs.declared.step.Answer.{Answer}
use Rattle.runs.specs.declared.step.Answer.TheVariants.{Held, Settled, Divided, Weight}
use Rattle.fit.specs.Calls.{Opens, TakeDid, DropDid, WipeDid, SettleDid, DivideDid, ExactDid, Allowed, Long, limit_of, weighing_of}
use Rattle.fit.specs.Filling.{KeptFrom}

-- A call is answered by its own kind of answer, or refused.
abbrev pub ByHeld : (Result ℕ Refusal → Type 0) → Result Answer Refusal → Type 0
ByHeld P (Ok (Held n)) = P (Ok n)
ByHeld P (Ok (Settled told)) = ⊥
ByHeld P (Ok (Divided told)) = ⊥
ByHeld P (Ok (Weight v)) = ⊥
ByHeld P (Err why) = P (Err why)

abbrev pub BySettled : (Result ℕ Refusal → Type 0) → Result Answer Refusal → Type 0
BySettled P (Ok (Held n)) = ⊥
BySettled P (Ok (Settled told)) = P (Ok told)
BySettled P (Ok (Divided told)) = ⊥
BySettled P (Ok (Weight v)) = ⊥
BySettled P (Err why) = P (Err why)

abbrev pub ByDivided : (Result Told Refusal → Type 0) → Result Answer Refusal → Type 0
ByDivided P (Ok (Held n)) = ⊥
ByDivided P (Ok (Settled told)) = ⊥
ByDivided P (Ok (Divided told)) = P (Ok told)
ByDivided P (Ok (Weight v)) = ⊥
ByDivided P (Err why) = P (Err why)

abbrev pub ByWeight : (Result ℕ Refusal → Type 0) → Result Answer Refusal → Type 0
ByWeight P (Ok (Held n)) = ⊥
ByWeight P (Ok (Settled told)) = ⊥
ByWeight P (Ok (Divided told)) = ⊥
ByWeight P (Ok (Weight v)) = P (Ok v)
ByWeight P (Err why) = P (Err why)

-- a wipe is never refused
abbrev pub Unrefused : (ℕ → Type 0) → Result ℕ Refusal → Type 0
Unrefused P (Ok n) = P n
Unrefused P (Err why) = ⊥

-- the two lists that a call is lent: one for answers or ends, one for work
pub record Lists : Type 0 where
  pub ends : List ℕ
  pub work : List ℕ

-- one call with its answer, by what the call itself promises
abbrev pub Did : {W : Type 0} → Ghosts W → Fit W → Call → Lists → Result Answer Refusal → Fit W → Lists → Type 0
Did m f (Take reading) l r f' l' = ByHeld (λ r. TakeDid m f reading r f') r × (l' ≡ l)
Did m f Drop l r f' l' = ByHeld (λ r. DropDid m f r f') r × (l' ≡ l)
Did m f Wipe l r f' l' = ByHeld (Unrefused (λ n. WipeDid m f n f')) r × (l' ≡ l)
Did m f Settle l r f' l' = BySettled (λ r. SettleDid m f l.ends l.work r f' l'.ends l'.work) r
Did m f (Divide k) l r f' l' = ByDivided (λ r. DivideDid m f k l.ends r l'.ends) r × (l'.work ≡ l.work) × (f' ≡ f)
Did m f (Exact k) l r f' l' = ByWeight (λ r. ExactDid m f k r) r × (l' ≡ l) × (f' ≡ f)

-- a call that was made, with its lists before and after and its answer
pub record Event : Type 0 where
  pub call : Call
  pub before : Lists
  pub answer : Result Answer Refusal
  pub after : Lists

-- a fit that was opened over w with the limit k, and on which the calls of a history were then made, the latest first
pub data Reached {W : Type 0} (m : Ghosts W) (w : W) (k : ℕ) : List Event → Fit W → Type 0 where
  opened : {f : Fit W} → Opens m w k f → Reached m w k [] f
  called : {h : List Event} {f f' : Fit W} (e : Event) → Reached m w k h f → Did m f e.call e.before e.answer f' e.after → Reached m w k (e ∷ h) f'

-- The readings that are held after a history, the last one first: of each, whether it is settled.
-- An answered take adds one at the end, an answered drop removes the last, a wipe removes all, and an answered settle settles
-- those that are held. Other calls, and refused ones, change nothing.
abbrev pub all_but_last : List Bool → List Bool
all_but_last [] = []
all_but_last (r ∷ rs) = rs

abbrev pub after_call : List Bool → Call → Result Answer Refusal → List Bool
after_call rs (Take reading) (Ok a) = false ∷ rs
after_call rs Drop (Ok a) = all_but_last rs
after_call rs Wipe (Ok a) = []
after_call rs Settle (Ok a) = map (λ r. true) rs
after_call rs (Divide k) (Ok a) = rs
after_call rs (Exact k) (Ok a) = rs
after_call rs (Take reading) (Err why) = rs
after_call rs Drop (Err why) = rs
after_call rs Wipe (Err why) = rs
after_call rs Settle (Err why) = rs
after_call rs (Divide k) (Err why) = rs
after_call rs (Exact k) (Err why) = rs

-- at first the readings are those that the weighing brings, n of them
abbrev pub readings : ℕ → List Event → List Bool
readings n [] = replicate n false
readings n (e ∷ h) = after_call (readings n h) e.call e.answer

abbrev pub settled : List Bool → ℕ
settled [] = 0
settled (r ∷ rs) = cond r (settled rs + 1) (settled rs)

-- What the next call answers, by the readings rs that are held, the limit, the weighing that is owned before and after it, and
-- the lists alone.
module _ {W : Type 0} (m : Ghosts W) (w w' : W) (limit : ℕ) (rs : List Bool) where
  abbrev pub TakeMeets : ℕ → Result ℕ Refusal → Type 0
  TakeMeets reading (Ok n) = (m.verdict w reading ≡ 0) × (n ≡ length rs + 1)
  TakeMeets reading (Err why) = Broken (m.verdict w reading ≡ 0) (m.verdict w reading) NoOther why

  abbrev pub DropMeets : Result ℕ Refusal → Type 0
  DropMeets (Ok n) = (0 < length rs) × (n ≡ length rs - 1)
  DropMeets (Err why) = Broken (0 < length rs) 5 NoOther why

  -- the count rises by what is told, at most limit × (4n + 13m), and by none where all are settled; only the first m places of the
  -- one list and 4m of the other are free
  pub record Settles (told : ℕ) (l l' : Lists) : Type 0 where
    pub counted : m.count w' ≡ m.count w + told
    pub few : told ≤ limit * (4 * length rs + 13 * (length rs - settled rs))
    pub idle : settled rs ≡ length rs → told ≡ 0
    pub ends_kept : KeptFrom (length rs - settled rs) l.ends l'.ends
    pub work_kept : KeptFrom (4 * (length rs - settled rs)) l.work l'.work

  abbrev pub SettleMeets : Lists → Lists → Result ℕ Refusal → Type 0
  SettleMeets l l' (Ok told) = (0 < length rs) × Long (length rs - settled rs) l.ends l.work × Settles told l l'
  SettleMeets l l' (Err why) = Broken (0 < length rs) 5 (Broken (Long (length rs - settled rs) l.ends l.work) 9 NoOther) why × (l' ≡ l)

  -- the division is best: every other one into k spans or fewer weighs at least as much, and one that weighs the same has more
  -- spans, or as many and at the last place where their breakpoints differ its own is later
  abbrev pub DivideMeets : ℕ → Lists → Lists → Result Told Refusal → Type 0
  DivideMeets k l l' (Ok told) =
      (0 < length rs) × (settled rs ≡ length rs) × Allowed limit k × Answered (m.weight w) (length rs) k told l'.ends
      × (drop told.spans l'.ends ≡ drop told.spans l.ends) × (l'.work ≡ l.work)
  DivideMeets k l l' (Err why) =
      Broken (0 < length rs) 5 (Broken (settled rs ≡ length rs) 7 (Broken (Allowed limit k) 6 (Broken (BestFits (m.weight w) (length rs) k (length l.ends)) 9 NoOther))) why
      × (l' ≡ l)

  abbrev pub ExactMeets : ℕ → Result ℕ Refusal → Type 0
  ExactMeets k (Ok v) = (0 < length rs) × (settled rs ≡ length rs) × Allowed limit k × (k ≤ length rs) × Least (m.weight w) k (length rs) v
  ExactMeets k (Err why) = Broken (0 < length rs) 5 (Broken (settled rs ≡ length rs) 7 (Broken (Allowed limit k × (k ≤ length rs)) 6 NoOther)) why

  abbrev pub Meets : Call → Lists → Result Answer Refusal → Lists → Type 0
  Meets (Take reading) l r l' = ByHeld (TakeMeets reading) r × (l' ≡ l)
  Meets Drop l r l' = ByHeld DropMeets r × (l' ≡ l)
  Meets Wipe l r l' = ByHeld (Unrefused (λ n. n ≡ 0)) r × (l' ≡ l)
  Meets Settle l r l' = BySettled (SettleMeets l l') r
  Meets (Divide k) l r l' = ByDivided (DivideMeets k l l') r
  Meets (Exact k) l r l' = ByWeight (ExactMeets k) r × (l' ≡ l)

-- THE LAW OVER RUNS, of one more call: however the fit came to be what it is since it was opened over w with the limit k, the
-- call is answered by the readings then held and settled.
abbrev pub Law : {W : Type 0} → Ghosts W → Fit W → Fit W → Call → Lists → Result Answer Refusal → Lists → Type 0
Law {W} m f f' call l r l' =
    (w : W) (k : ℕ) (h : List Event) → Reached m w k h f → Meets m (weighing_of f) (weighing_of f') (limit_of k) (readings (m.held w) h) call l r l'
