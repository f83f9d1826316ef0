-- How one line more lengthens the course of a session, from what reading it answers.
use Rattle.std.proofs.Common.{◌≡◌, ℕ, List, Some, Ok, Err, Result, sym, ap, ◌∙◌, subst}
use Rattle.refusal.specs.declared.Refusal.{Refusal}
use Rattle.weighing.specs.declared.weighing.Weighing.{Ghosts}
use Rattle.console.specs.declared.command.Command.{Command}
use Rattle.console.specs.Grammar.{Says, Short, told}
use Rattle.console.specs.Lines.{Next, place_after}
use Rattle.fit.specs.declared.fit.Fit.{Fit}
use Rattle.runs.specs.Runs.{Lists}
use Rattle.session.specs.Performed.{Performed, refused_line}
use Rattle.session.specs.Courses.{Course, answered, not_understood}

module _ {W L : Type 0} (m : Ghosts W) (hears : L → List ℕ → L → Type 0) (input : List ℕ) (start : ℕ) (fit : Fit W) (first : L) where
  -- the line was read from the input of the session, and the reader moved past it
  read_here : {bytes : List ℕ} (place : ℕ) {line heard : Result Command Refusal} → bytes ≡ input → line ≡ heard → Next told (Short Says) bytes place (Some line) → Next told (Short Says) input place (Some heard)
  read_here place {line = line} same is next =
      subst (λ x. Next told (Short Says) input place (Some x)) is (subst (λ x. Next told (Short Says) x place (Some line)) same next)

  moved : {bytes : List ℕ} (place : ℕ) {place' : ℕ} → bytes ≡ input → place' ≡ place_after bytes place → place_after input place ≡ place'
  moved place same past = sym (past ∙ ap (λ x. place_after x place) same)

  pub next_answered : {bytes text : List ℕ} {place place' : ℕ} {f f' : Fit W} {l l' : L} {line : Result Command Refusal} {command : Command} {lists : Lists} → bytes ≡ input → place' ≡ place_after bytes place → Next told (Short Says) bytes place (Some line) → line ≡ Ok command → Course m hears input start fit first place f l → Performed m f f' (told command) lists text → hears l text l' → Course m hears input start fit first place' f' l'
  next_answered {bytes} {text} {place} {place'} {f} {f'} {l} {l'} {line} {command} {lists} same past next is course performed heard =
      let here : Next told (Short Says) input place (Some (Ok command)) = read_here place same is next in
      subst (λ x. Course m hears input start fit first x f' l') (moved place same past) (answered (told command) lists text course here.0 here.1.0 performed heard)

  pub next_refused : {bytes text : List ℕ} {place place' : ℕ} {f : Fit W} {l l' : L} {line : Result Command Refusal} {why : Refusal} → bytes ≡ input → place' ≡ place_after bytes place → Next told (Short Says) bytes place (Some line) → line ≡ Err why → Course m hears input start fit first place f l → text ≡ refused_line why → hears l text l' → Course m hears input start fit first place' f l'
  next_refused {bytes} {text} {place} {place'} {f} {l} {l'} {line} {why} same past next is course tells heard =
      let here : Next told (Short Says) input place (Some (Err why)) = read_here place same is next in
      subst (λ x. Course m hears input start fit first x f l') (moved place same past) (not_understood why course here.0 here.1.1 here.1.0 (subst (λ x. hears l x l') tells heard))
