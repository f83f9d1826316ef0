-- How a session begins, from what reading its first line answers.
use Rattle.std.proofs.Common.{◌≡◌, ℕ, List, Some, Ok, Err, Result, sym, ap, ◌∙◌, subst}
use Rattle.refusal.specs.declared.Refusal.{Refusal}
use Rattle.console.specs.declared.command.Opening.{Opening}
use Rattle.console.specs.Grammar.{Opens, Short, told_opening}
use Rattle.console.specs.Lines.{Next, place_after}
use Rattle.session.specs.Performed.{refused_line}
use Rattle.session.specs.Conducts.{Conducted, SessionOver, not_opened, opened}

-- a session over what a line says is one over the line
pub over_said : {L : Type 0} (hears : L → List ℕ → L → Type 0) (input : List ℕ) (start : ℕ) (first last : L) {opening said : Opening} → opening ≡ said → SessionOver hears input start first last (told_opening said) → SessionOver hears input start first last (told_opening opening)
over_said hears input start first last is = subst (λ o. SessionOver hears input start first last (told_opening o)) (sym is)

module _ {L : Type 0} (hears : L → List ℕ → L → Type 0) (input : List ℕ) (first last : L) {bytes : List ℕ} {place : ℕ} (same : bytes ≡ input) (zero : place ≡ 0) (line : Result Opening Refusal) (next : Next told_opening (Short Opens) bytes place (Some line)) where
  -- the line was read at the start of the input
  at_start : (said : Result Opening Refusal) → line ≡ said → Next told_opening (Short Opens) input 0 (Some said)
  at_start said is =
      subst (λ x. Next told_opening (Short Opens) input 0 (Some x)) is (subst (λ x. Next told_opening (Short Opens) input x (Some line)) zero (subst (λ x. Next told_opening (Short Opens) x place (Some line)) same next))

  -- what opens nothing is told by the refusal
  pub refused_first : {text : List ℕ} (why : Refusal) → line ≡ Err why → text ≡ refused_line why → hears first text last → Conducted hears input first last
  refused_first why is tells heard =
      let read = at_start (Err why) is in not_opened why read.0 read.1.1 read.1.0 (subst (λ x. hears first x last) tells heard)

  -- what opens a session is followed by the lines behind it
  pub opened_first : {after : List ℕ} {start : ℕ} (opening : Opening) → line ≡ Ok opening → after ≡ bytes → start ≡ place_after bytes place → SessionOver hears after start first last (told_opening opening) → Conducted hears input first last
  opened_first {start = start} opening is kept past over =
      let read = at_start (Ok opening) is in
      let said = told_opening opening in
      let behind = past ∙ ap (place_after bytes) zero ∙ ap (λ x. place_after x 0) same in
      opened said read.0 read.1.0 (subst (λ x. SessionOver hears input x first last said) behind (subst (λ x. SessionOver hears x start first last said) (kept ∙ same) over))
