-- What the caller of a fit's steps promises: a reading is taken, all are settled, and the best division is answered.
use Rattle.std.specs.Prelude.{◌≡◌, ℕ, ◌+◌, List, Ok, Err, Result}
use Rattle.refusal.specs.declared.Refusal.{Refusal}
use Rattle.refusal.specs.Rules.{Broken, NoOther}
use Rattle.weighing.specs.declared.weighing.Weighing.{Ghosts}
use Rattle.weighing.specs.Did as weighing
use Rattle.division.specs.declared.table.Told.{Told}
use Rattle.division.specs.Divide.{Answered}
use Rattle.fit.specs.Calls.{Allowed, Long, limit_of}
use Rattle.fit.specs.Rounds.{SameWeighing}

-- The weighing took the reading, and then means what it meant but for its count; the ends are those of the best division of all its
-- readings.
pub record Cut {W : Type 0} (m : Ghosts W) (w : W) (reading k : ℕ) (told : Told) (ends : List ℕ) : Type 0 where
  pub taken : W
  pub took : weighing.TakeDid m w taken reading (Ok (m.held w + 1))
  pub owned : W
  pub same : SameWeighing m taken owned
  pub best : Answered (m.weight owned) (m.held w + 1) k told ends

-- Refused with the verdict, then where the lists are too short to settle all readings, then for a wrong number of spans.
abbrev pub CutDid : {W : Type 0} → Ghosts W → W → ℕ → ℕ → ℕ → List ℕ → List ℕ → List ℕ → Result Told Refusal → Type 0
CutDid m w reading limit k ends work ends' (Ok told) = Cut m w reading k told ends'
CutDid m w reading limit k ends work ends' (Err why) =
    Broken (m.verdict w reading ≡ 0) (m.verdict w reading) (Broken (Long (m.held w + 1) ends work) 9 (Broken (Allowed (limit_of limit) k) 6 NoOther)) why
