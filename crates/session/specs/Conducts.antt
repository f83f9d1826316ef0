-- A whole session over an input: which weighing the first line has a fit opened over, and what is then heard.
use Rattle.std.specs.Prelude.{◌≡◌, ℕ, ◌<◌, List, [], length}
use Rattle.refusal.specs.declared.Refusal.{Refusal}
use Rattle.refusal.specs.Numbers.{number}
use Rattle.rising.specs.Ceilings.{Ceiling, ceiling_readings, ceiling_count, ceiling_meaning}
use Rattle.rising.specs.Middles.{Middle, middle_readings, middle_count, middle_meaning}
use Rattle.even.specs.declared.Even.{Even}
use Rattle.even.specs.Meaning.{even_meaning}
use Rattle.console.specs.Numerals.{NumberOf}
use Rattle.console.specs.Grammar.{Opened, Opens, Short, for_ceiling, for_middle, for_even}
use Rattle.console.specs.Lines.{line_at, place_after}
use Rattle.reply.specs.declared.Kind.TheVariants as kind
use Rattle.session.specs.Performed.{refused_line}
use Rattle.session.specs.Courses.{WholeSession}

-- From a place in the input on, where the first line said this: a fit is opened over a new weighing of the kind that it names,
-- which holds nothing and has counted nothing, and the lines are answered.
module _ {L : Type 0} (hears : L → List ℕ → L → Type 0) (input : List ℕ) (start : ℕ) (first last : L) where
  abbrev pub SessionOver : Opened → Type 0
  SessionOver (for_ceiling limit) =
      (w : Ceiling) × (ceiling_readings w ≡ []) × (ceiling_count w ≡ 0) × WholeSession ceiling_meaning hears input start kind.Ceiling w limit first last
  SessionOver (for_middle limit) =
      (w : Middle) × (middle_readings w ≡ []) × (middle_count w ≡ 0) × WholeSession middle_meaning hears input start kind.Middle w limit first last
  SessionOver (for_even long limit) =
      (w : Even) × (g : ℕ) × NumberOf long g × (w.nominal ≡ g) × (w.n ≡ 0) × (w.weighs.told ≡ 0) × WholeSession even_meaning hears input start (kind.Even g) w limit first last

-- With no bytes nothing is heard; a first line that opens nothing is told by 14, and ends the session.
pub data Conducted {L : Type 0} (hears : L → List ℕ → L → Type 0) (input : List ℕ) (first last : L) : Type 0 where
  nothing_said : length input ≡ 0 → last ≡ first → Conducted hears input first last
  not_opened : (why : Refusal) → 0 < length input → ((said : Opened) → Short Opens (line_at input 0) said → ⊥) → number why ≡ 14 → hears first (refused_line why) last → Conducted hears input first last
  opened : (said : Opened) → 0 < length input → Short Opens (line_at input 0) said → SessionOver hears input (place_after input 0) first last said → Conducted hears input first last
