-- Two numbers part at the space between them, since no digit is one.
use Rattle.std.proofs.Common.{◌≡◌, ℕ, ◌==◌, List, ◌∷◌, ◌++◌, length, get_or, take, drop, sym, ap, ◌∙◌, arith}
use Rattle.std.specs.List.{position_or_len}
use Rattle.std.proofs.Math.Seq.{take-append_seam, get_or-append_seam}
use Rattle.std.proofs.Math.ListN.{get_or-append, length-append}
use Rattle.std.proofs.lemmas.List.Prefix.{front_rest, front_fits}
use Rattle.std.proofs.lemmas.List.Sums.{position_or_len_is}
use Rattle.std.proofs.lemmas.Bool.{eq-eqb, ne_eqb}
use Rattle.console.specs.Numerals.{Numeral}
use Rattle.console.specs.Grammar.{Opened, for_ceiling, for_middle, for_even, Opens}
use Rattle.console.specs.Lines.{before}

module _ (words first second : List ℕ) (two : words ≡ first ++ (32 ∷ second)) (numeral : Numeral first) where
  pub front_is : before 32 words ≡ first
  front_is =
      let at : position_or_len (λ byte. byte == 32) words ≡ length first = position_or_len_is (λ byte. byte == 32) words (length first) 0 (front_fits words first (32 ∷ second) two)
      (λ i within.
      let digit = numeral.digits i within in
      let same : get_or words i 0 ≡ get_or first i 0 = ap (λ list. get_or list i 0) two ∙ get_or-append first (32 ∷ second) 0 i within in
      ne_eqb _ _ (λ space. omega arith))
      (λ _. eq-eqb _ _ (ap (λ list. get_or list (length first) 0) two ∙ get_or-append_seam first 32 second 0)) in
      ap (λ n. take n words) at ∙ ap (take (length first)) two ∙ take-append_seam first (32 ∷ second)

  pub behind_is : (front behind : List ℕ) → front ≡ before 32 words → words ≡ front ++ (32 ∷ behind) → behind ≡ second
  behind_is front behind is whole =
      let same : drop (length front) words ≡ drop (length first) words = ap (λ list. drop (length list) words) (is ∙ front_is) in
      ap (drop 1) (sym (front_rest words front (32 ∷ behind) whole) ∙ same ∙ front_rest words first (32 ∷ second) two)

  pub no_whole : before 32 words ≡ words → ⊥
  no_whole whole =
      let long = ap length (sym front_is ∙ whole ∙ two) ∙ length-append first (32 ∷ second) in
      omega arith

even_same : (words long limit other rest : List ℕ) → words ≡ long ++ (32 ∷ limit) → Numeral long → words ≡ other ++ (32 ∷ rest) → Numeral other → for_even other rest ≡ for_even long limit
even_same words long limit other rest one numeral two numeral' =
    let first = sym (front_is words other rest two numeral') in
    ap (for_even other) (sym (behind_is words other rest two numeral' long limit (sym (front_is words long limit one numeral)) one)) ∙ ap (λ part. for_even part limit) (first ∙ front_is words long limit one numeral)

-- the kinds differ in their first byte
pub even_once : (line long limit : List ℕ) → Opens line (for_even long limit) → (other : Opened) → Opens line other → other ≡ for_even long limit
even_once line long limit is (for_ceiling other) says = let apart = ap (λ bytes. get_or bytes 5 0) (sym is.0 ∙ says.0) in absurd (omega arith)
even_once line long limit is (for_middle other) says = let apart = ap (λ bytes. get_or bytes 5 0) (sym is.0 ∙ says.0) in absurd (omega arith)
even_once line long limit is (for_even other rest) says = even_same (drop 10 line) long limit other rest (ap (drop 10) is.0) is.1 (ap (drop 10) says.0) says.1
