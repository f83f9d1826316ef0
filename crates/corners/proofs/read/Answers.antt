-- The line is parted at its first space, and each part read as a number.
use Rattle.std.proofs.Common.{◌≡◌, Ok, Err, sym, ap, ◌∙◌, None, refl, inl, arith, to_z-of_z, w32, SFits, rules}
use Rattle.std.proofs.lemmas.Str.Pattern.{split_parts}
use Rattle.std.proofs.lemmas.Result.{err_from_is_err_and}
use Rattle.std.specs.Option.{ok_or}
use Rattle.std.specs.Result.{result_ok}
use Rattle.refusal.specs.declared.Refusal.TheVariants.{NotUnderstood}
use Rattle.refusal.proofs.Rules.{stronger_broken}
use Rattle.corners.proofs.Lines.{no_space_no_corner, parts_are_numbers, parts_written}
use Rattle.corners.proofs.read.Goals as goal

pub returns-in_err-x : goal.returns-in_err-x
returns-in_err-x c =
    let line = c.args.line.now in
    let p = err_from_is_err_and c.from_residual.result c.from_residual.ensures.1 in
    let split = rw (c.ok_or.ensures.ok_part, c.in_err-x.was) at c.split_once.ensures.cases in
    let none = c.ok_or.ensures.ok_part ∙ ap result_ok c.in_err-x.was in
    let why : c.in_err-x.field-0.0 ≡ NotUnderstood = ap (λ r. elim r [ Ok _ ↦ NotUnderstood | Err e ↦ e ]) (sym c.in_err-x.was ∙ c.ok_or.ensures.value ∙ ap (λ o. ok_or o NotUnderstood) none) in
    rw (p.1, p.2) (record { answer = rw why (inl (no_space_no_corner line (split_parts 32 line None split (omega arith)), refl)) })

pub returns-in_err-whole : goal.returns-in_err-whole
returns-in_err-whole c =
    let p = err_from_is_err_and c.from_residual-in_err-whole.result c.from_residual-in_err-whole.ensures.1 in
    let split = rw (c.ok_or.ensures.ok_part, c.in_ok-x.was) at c.split_once.ensures.cases in
    let numbers = parts_are_numbers c.args.line.now c.in_ok-x.x c.in_ok-x.y split in
    rw (p.1, p.2) (record { answer = stronger_broken _ _ 14 _ (λ s. (s.0.x, (numbers s.0 s.1).0)) c.in_err-whole.ensures.answer })

pub returns-in_err-whole-2 : goal.returns-in_err-whole-2
returns-in_err-whole-2 c =
    let p = err_from_is_err_and c.from_residual-in_err-whole-2.result c.from_residual-in_err-whole-2.ensures.1 in
    let split = rw (c.ok_or.ensures.ok_part, c.in_ok-x.was) at c.split_once.ensures.cases in
    let numbers = parts_are_numbers c.args.line.now c.in_ok-x.x c.in_ok-x.y split in
    rw (p.1, p.2) (record { answer = stronger_broken _ _ 14 _ (λ s. (s.0.y, (numbers s.0 s.1).1)) c.in_err-whole-2.ensures.answer })

pub returns : goal.returns
returns c =
    let fits_x : SFits w32 c.in_ok-whole.field-0 = search rules in
    let fits_y : SFits w32 c.in_ok-whole-2.field-0 = search rules in
    let split = rw (c.ok_or.ensures.ok_part, c.in_ok-x.was) at c.split_once.ensures.cases in
    record {
      answer = simp to_z-of_z
          (parts_written c.args.line.now c.in_ok-x.x c.in_ok-x.y split (record { x = c.in_ok-whole.field-0; y = c.in_ok-whole-2.field-0 }) c.in_ok-whole.ensures.answer c.in_ok-whole-2.ensures.answer);
    }
