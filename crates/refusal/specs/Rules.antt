-- A call names its rules in order, each with the number of its refusal; the first rule that is broken gives the refusal.
use Rattle.std.specs.Prelude.{ℕ, ◌≡◌, ◌⊎◌}
use Rattle.refusal.specs.declared.Refusal.{Refusal}
use Rattle.refusal.specs.Numbers.{number}

-- the rule is broken and gives the refusal numbered n, or it is kept and a later one gives the refusal
abbrev pub Broken : Type 0 → ℕ → (Refusal → Type 0) → Refusal → Type 0
Broken rule n later why = ((rule → ⊥) × (number why ≡ n)) ⊎ (rule × later why)

-- there is no later rule
abbrev pub NoOther : Refusal → Type 0
NoOther why = ⊥
