use Rattle.std.proofs.Common.{refl, rules}
use Rattle.console.specs.Grammar.{taking, dropping, wiping, settling, dividing, exacting, Says}
use Rattle.console.proofs.words.command_of.Goals as goal

pub returns-in_default : goal.returns-in_default
returns-in_default c = (
  refl,
  λ said. elim said as (λ k. Says c.args.line.now k → ⊥) [
    | taking digits ↦ λ says. search rules
    | dropping ↦ λ says. search rules
    | wiping ↦ λ says. search rules
    | settling ↦ λ says. search rules
    | dividing digits ↦ λ says. search rules
    | exacting digits ↦ λ says. search rules
  ],
)
