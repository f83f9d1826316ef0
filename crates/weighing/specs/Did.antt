-- What each call does to a weighing, by the members of any weighing.
use Rattle.std.specs.Prelude.{ℕ, Result}
use Rattle.refusal.specs.declared.Refusal.{Refusal}
use Rattle.weighing.specs.declared.weighing.Weighing.{Ghosts}
use Rattle.weighing.specs.Calls.{Takes, Drops, Wipes, Weighs, KeepsLevels}

module _ {W : Type 0} (m : Ghosts W) (s t : W) where
  abbrev pub LevelsKept : Type 0
  LevelsKept = KeepsLevels m.held m.level s t

  abbrev pub TakeDid : ℕ → Result ℕ Refusal → Type 0
  TakeDid = Takes m.held m.weight m.verdict m.top m.count s t

  abbrev pub DropDid : Result ℕ Refusal → Type 0
  DropDid = Drops m.held m.weight m.verdict m.top m.count s t

  abbrev pub WipeDid : ℕ → Type 0
  WipeDid = Wipes m.held m.weight m.verdict m.top m.count s t

  abbrev pub WeighDid : ℕ → ℕ → Result ℕ Refusal → Type 0
  WeighDid = Weighs m.held m.weight m.verdict m.top m.count s t
