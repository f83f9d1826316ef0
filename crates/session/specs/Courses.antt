-- The course of a session: each line is answered in its turn, and its reply is heard.
use Rattle.std.specs.Prelude.{◌≡◌, ℕ, ◌<◌, ◌≤◌, List, length}
use Rattle.refusal.specs.declared.Refusal.{Refusal}
use Rattle.refusal.specs.Numbers.{number}
use Rattle.weighing.specs.declared.weighing.Weighing.{Ghosts}
use Rattle.console.specs.Grammar.{Spoken, Says, Short}
use Rattle.console.specs.Lines.{line_at, place_after}
use Rattle.fit.specs.declared.fit.Fit.{Fit}
use Rattle.runs.specs.Runs.{Lists}
use Rattle.fit.specs.Calls.{Opens}
use Rattle.reply.specs.declared.Kind as kinds
use Rattle.session.specs.Performed.{Performed, ByNumber, open_line, refused_line}

-- From a place in the input, a fit and a listener on, the lines up to another place were answered: one that says a command
-- by what that command does to the fit, and one that says none by 14, which changes nothing. The listener heard each reply.
pub data Course {W L : Type 0} (m : Ghosts W) (hears : L → List ℕ → L → Type 0) (input : List ℕ) (start : ℕ) (fit : Fit W) (first : L) : ℕ → Fit W → L → Type 0 where
  begun : Course m hears input start fit first start fit first
  answered : {place : ℕ} {f f' : Fit W} {l l' : L} (command : Spoken) (lists : Lists) (text : List ℕ) → Course m hears input start fit first place f l → place < length input → Short Says (line_at input place) command → Performed m f f' command lists text → hears l text l' → Course m hears input start fit first (place_after input place) f' l'
  not_understood : {place : ℕ} {f : Fit W} {l l' : L} (why : Refusal) → Course m hears input start fit first place f l → place < length input → ((said : Spoken) → Short Says (line_at input place) said → ⊥) → number why ≡ 14 → hears l (refused_line why) l' → Course m hears input start fit first (place_after input place) f l'

-- the lines were answered up to the end of the input
pub record WholeCourse {W L : Type 0} (m : Ghosts W) (hears : L → List ℕ → L → Type 0) (input : List ℕ) (start : ℕ) (fit fit' : Fit W) (first last : L) : Type 0 where
  pub place : ℕ
  pub over : length input ≤ place
  pub course : Course m hears input start fit first place fit' last

-- A fit was opened over a weighing with the limit that the digits write, the listener heard so, and then the lines were answered
-- up to the end of the input.
pub record WholeSession {W L : Type 0} (m : Ghosts W) (hears : L → List ℕ → L → Type 0) (input : List ℕ) (start : ℕ) (kind : kinds.Kind) (w : W) (limit : List ℕ) (first last : L) : Type 0 where
  pub fit : Fit W
  pub fit' : Fit W
  pub told : L
  pub opens : ByNumber limit (λ k. Opens m w k fit)
  pub tells : hears first (open_line kind fit.limit) told
  pub lines : WholeCourse m hears input start fit fit' told last
