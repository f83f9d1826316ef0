use Rattle.std.proofs.Common.{◌≡◌, ◌++◌, ◌-◌, codes, length, refl, ap, take, drop, ◌∙◌, arith, rules}
use Rattle.std.proofs.lemmas.List.{take_rest}
use Rattle.std.proofs.lemmas.Grind.{common_steps}
use Rattle.console.specs.Grammar.{for_ceiling, for_middle, for_even, Opens}
use Rattle.console.proofs.Grammar.{even_once}
use Rattle.console.proofs.words.opening_of.Goals as goal

pub returns-in_ok-length-in-101 : goal.returns-in_ok-length-in-101
returns-in_ok-length-in-101 c =
    let line = c.args.line.now in
    let kind = take (length line - 5) (drop 5 line) in
    let numbers = take (length kind - 5) (drop 5 kind) in
    let opened : line ≡ codes "open " ++ kind = grind (arith, common_steps) in
    let even : kind ≡ codes "even " ++ numbers = grind (arith, common_steps) in
    let long = c.in_ok-length-in-101.length.now in
    let limit = c.in_ok-length-in-101.limit.now in
    let two : numbers ≡ long ++ (codes " " ++ limit) = search rules in
    let opens : Opens line (for_even long limit) = (opened ∙ ap (λ rest. codes "open " ++ rest) (even ∙ ap (λ rest. codes "even " ++ rest) two), search rules, search rules) in
    (opens, even_once line long limit opens)

pub returns-in_default-kind : goal.returns-in_default-kind
returns-in_default-kind c =
    let line = c.args.line.now in
    let kind = take (length line - 5) (drop 5 line) in (
      refl,
      λ said.
          elim said as (λ k. Opens line k → ⊥) [
            | for_ceiling limit ↦ λ says. let is : kind ≡ codes "ceiling " ++ limit = take_rest line 5 ∙ ap (drop 5) says.0 in search rules
            | for_middle limit ↦ λ says. let is : kind ≡ codes "middle " ++ limit = take_rest line 5 ∙ ap (drop 5) says.0 in search rules
            | for_even long limit ↦ λ says. let is : kind ≡ codes "even " ++ (long ++ (codes " " ++ limit)) = take_rest line 5 ∙ ap (drop 5) says.0 in search rules
          ],
    )
