-- What the calls of a weighing answer, and what they leave of its meaning.
use Rattle.std.specs.Prelude.{◌≡◌, ℕ, ◌+◌, ◌-◌, ◌^◌, ◌<◌, ◌≤◌, Some, None, Ok, Err, Option, Result}
use Rattle.counter.specs.Counters.{raised}
use Rattle.refusal.specs.declared.Refusal.{Refusal}
use Rattle.refusal.specs.Numbers.{number}
use Rattle.refusal.specs.Rules.{Broken, NoOther}

-- a verdict as a number: that of the refusal, or 0
abbrev pub told : Option Refusal → ℕ
told None = 0
told (Some why) = number why

-- a..b is a span of n readings: it covers a to b - 1
pub record Span (n a b : ℕ) : Type 0 where
  pub some : a < b
  pub within : b ≤ n

-- A call that found s leaves t, which holds n readings and has counted so many weighs. The top stands,
-- and so does the weight of each span that is held both before and after.
pub record Leaves {W : Type 0} (held : W → ℕ) (weight : W → ℕ → ℕ → ℕ) (top count : W → ℕ) (n weighs : ℕ) (s t : W) : Type 0 where
  pub holds : held t ≡ n
  pub weights_same : (a b : ℕ) → a < b → b ≤ held s → b ≤ n → weight t a b ≡ weight s a b
  pub top_same : top t ≡ top s
  pub counted : count t ≡ weighs

-- each span that is held both before and after keeps its level
pub record KeepsLevels {W : Type 0} (held : W → ℕ) (level : W → ℕ → ℕ → ℕ) (s t : W) : Type 0 where
  pub levels_same : (a b : ℕ) → a < b → b ≤ held s → b ≤ held t → level t a b ≡ level s a b

module _ {W : Type 0} (held : W → ℕ) (weight : W → ℕ → ℕ → ℕ) (verdict : W → ℕ → ℕ) (top count : W → ℕ) (s t : W) where
  -- a take is answered with the new n where the verdict is 0, and refused with the verdict otherwise
  abbrev pub Takes : ℕ → Result ℕ Refusal → Type 0
  Takes reading (Ok n) = (verdict s reading ≡ 0) × (n ≡ held s + 1) × Leaves held weight top count n (count s) s t
  Takes reading (Err why) = Broken (verdict s reading ≡ 0) (verdict s reading) NoOther why × (t ≡ s)

  -- a drop is answered with the new n where something is held
  abbrev pub Drops : Result ℕ Refusal → Type 0
  Drops (Ok n) = (0 < held s) × (n ≡ held s - 1) × Leaves held weight top count n (count s) s t
  Drops (Err why) = Broken (0 < held s) 5 NoOther why × (t ≡ s)

  -- a wipe is answered with 0
  abbrev pub Wipes : ℕ → Type 0
  Wipes n = (n ≡ 0) × Leaves held weight top count n (count s) s t

  -- a weigh of a span is answered with its weight, and counted; no verdict alters
  abbrev pub Weighs : ℕ → ℕ → Result ℕ Refusal → Type 0
  Weighs a b (Ok v) = Span (held s) a b × (v ≡ weight s a b) × Leaves held weight top count (held s) (raised (count s)) s t
      × ((reading : ℕ) → reading < 2 ^ 32 → verdict t reading ≡ verdict s reading)
  Weighs a b (Err why) = Broken (Span (held s) a b) 8 NoOther why × (t ≡ s)
