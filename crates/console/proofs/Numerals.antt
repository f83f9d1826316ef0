-- Digits read from the left come to the value that each has by its place; from the toolchain's laws of numerals.
use Rattle.std.proofs.Common.{◌≡◌, ℕ, ◌+◌, ◌-◌, ◌*◌, ◌^◌, ◌<◌, ◌≤◌, List, length, get_or, take, decimal, sym, ap, ◌∙◌, pow-suc, add-one, arith, rules}
use Rattle.std.specs.Str.Parse as std
use Rattle.std.specs.Char.{digit_value as char_digit_value}
use Rattle.std.proofs.lemmas.Fmt.{decimal-digits_value}
use Rattle.std.proofs.lemmas.Int.Digits.{digits_value_more}
use Rattle.std.proofs.lemmas.List.{take_all}
use Rattle.std.proofs.lemmas.Str.Parse.{IsNumeralModel, numerals_by_weight, tells_by_index, digits_value_short}
use Rattle.std.proofs.lemmas.Bool.{cond-true, cond-false, lt-ltb, le-ltb}
use Rattle.console.specs.Numerals.{Digits, Numeral, value}

pub numerals : IsNumeralModel Digits value
numerals = numerals_by_weight Digits tells_by_index value (search rules)

digit_value : (byte : ℕ) → 48 ≤ byte → byte ≤ 57 → char_digit_value byte ≡ byte - 48
digit_value byte low high = cond-false _ _ _ (le-ltb byte 48 low) ∙ cond-true _ _ _ (lt-ltb byte 58 (omega arith))

power_grows : (v d i : ℕ) → v < 10 ^ i → d < 10 → v * 10 + d < 10 ^ (i + 1)
power_grows v d i small digit = rw (add-one, pow-suc) (omega arith)

-- one more digit
pub digit_more : (digits : List ℕ) (i v d : ℕ) → Digits digits → i < length digits → d ≡ get_or digits i 0 - 48 → (v ≡ std.digits_value 10 (take i digits)) × (v < 10 ^ i) → (v * 10 + d ≡ std.digits_value 10 (take (i + 1) digits)) × (v * 10 + d < 10 ^ (i + 1))
digit_more digits i v d all within is so_far =
    let byte = all i within in
    let more = digits_value_more 10 digits i within in
    let worth = digit_value (get_or digits i 0) byte.0 byte.1 in
    let first = so_far.0 in
    let small : d < 10 = omega arith in
    (omega arith, power_grows v d i so_far.1 small)

-- all digits
pub digits_all : (digits : List ℕ) (i v : ℕ) → Numeral digits → length digits ≤ i → v ≡ std.digits_value 10 (take i digits) → v ≡ value digits
digits_all digits i v numeral past is =
    is ∙ ap (std.digits_value 10) (take_all i digits past) ∙ sym (numerals.same digits (numerals.to digits numeral.digits))

pub value_below : (digits : List ℕ) → Numeral digits → value digits < 10 ^ 6
value_below digits numeral = digits_value_short numerals digits 6 numeral.digits numeral.short

-- a numeral is what the number is written as
pub value_written : (digits : List ℕ) → Numeral digits → decimal (value digits) ≡ digits
value_written digits numeral =
    let small = value_below digits numeral in
    decimal-digits_value numerals digits numeral.digits numeral.some numeral.no_leading_zero (omega arith)
