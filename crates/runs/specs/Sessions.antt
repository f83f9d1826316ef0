-- A session: a fit is opened and calls are made on it, each of which is answered by the readings then held and settled.
use Rattle.std.specs.Prelude.{◌≡◌, ℕ, ◌≤◌, List, [], ◌∷◌, ◌++◌, take, drop, Result}
use Rattle.refusal.specs.declared.Refusal.{Refusal}
use Rattle.weighing.specs.declared.weighing.Weighing.{Ghosts}
use Rattle.fit.specs.declared.fit.Fit.{Fit}
use Rattle.runs.specs.declared.step.Call.{Call}
use Rattle.runs.specs.declared.step.Answer.{Answer}
use Rattle.fit.specs.Calls.{Opens, weighing_of, limit_of}
use Rattle.runs.specs.Runs.{Did, Event, readings, Meets}

-- the calls of a history and their answers, the first one first
abbrev pub calls_of : List Event → List Call
calls_of [] = []
calls_of (e ∷ h) = calls_of h ++ (e.call ∷ [])

abbrev pub answers_of : List Event → List (Result Answer Refusal)
answers_of [] = []
answers_of (e ∷ h) = answers_of h ++ (e.answer ∷ [])

-- A history since a fit was opened over w with the limit k, the latest call first: each call did what it promises, and was answered
-- by the readings then held and settled.
pub data Lawful {W : Type 0} (m : Ghosts W) (w : W) (k : ℕ) : List Event → Fit W → Type 0 where
  started : {f : Fit W} → Opens m w k f → Lawful m w k [] f
  answered : {h : List Event} {f f' : Fit W} (e : Event) → Lawful m w k h f → Did m f e.call e.before e.answer f' e.after →
      Meets m (weighing_of f) (weighing_of f') (limit_of k) (readings (m.held w) h) e.call e.before e.answer e.after → Lawful m w k (e ∷ h) f'

-- The first n calls of a list were made, and their answers stand in the first n places; later places hold what they held.
pub record Ran {W : Type 0} (m : Ghosts W) (w : W) (k n : ℕ) (calls : List Call) (old new : List (Result Answer Refusal)) (f : Fit W) : Type 0 where
  pub history : List Event
  pub made : calls_of history ≡ take n calls
  pub told : answers_of history ≡ take n new
  pub rest : (j : ℕ) → n ≤ j → drop j new ≡ drop j old
  pub lawful : Lawful m w k history f
