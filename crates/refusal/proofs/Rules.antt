-- Rules and the refusals that they give.
use Rattle.std.proofs.Common.{ℕ, inl, inr}
use Rattle.refusal.specs.declared.Refusal.{Refusal}
use Rattle.refusal.specs.Rules.{Broken, NoOther}

-- where the last rule is broken, so is a stronger one
pub stronger_broken : (weak strong : Type 0) (n : ℕ) (why : Refusal) → (strong → weak) → Broken weak n NoOther why → Broken strong n NoOther why
stronger_broken weak strong n why f (inl h) = inl (λ s. h.0 (f s), h.1)
stronger_broken weak strong n why f (inr h) = absurd h.1
