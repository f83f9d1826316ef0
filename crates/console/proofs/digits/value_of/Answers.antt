use Rattle.std.proofs.Common.{◌≡◌, decimal, ap, ◌∙◌, inl, arith, rules}
use Rattle.console.specs.Numerals.{Numeral, value}
use Rattle.console.proofs.Numerals.{digit_more, digits_all, value_below, value_written}
use Rattle.console.proofs.digits.value_of.Goals as goal

pub loop-digit-preserved : goal.loop-digit-preserved
loop-digit-preserved c = digit_more c.args.digits.now c.loop-digit.digit-index c.loop-digit.value _ (c.is_numeral.ensures.0 (search rules)).digits (omega arith) c.from.ensures c.loop-digit.invariant

pub returns : goal.returns
returns c =
    let digits = c.args.digits.now in
    let numeral : Numeral digits = c.is_numeral.ensures.0 (search rules) in
    let is : c.loop-digit.value ≡ value digits = digits_all digits c.loop-digit.digit-index c.loop-digit.value numeral (omega arith) c.loop-digit.invariant.0 in
    let small = value_below digits numeral in
    record {
      value = inl (numeral, is);
      written = λ _. ap decimal is ∙ value_written digits numeral;
      bound = omega arith;
    }
