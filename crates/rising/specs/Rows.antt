-- Readings that stand in a row, and what may follow them.
use Rattle.std.specs.Prelude.{◌≡◌, ℕ, ◌+◌, ◌-◌, ◌<◌, ◌≤◌, List, [], ◌∷◌, ◌++◌, length, take, Ok, Err, Result, slice_index}
use Rattle.refusal.specs.declared.Refusal.{Refusal}
use Rattle.refusal.specs.Rules.{Broken, NoOther}
use Rattle.weighing.specs.declared.weighing.Weighing.{Ghosts}
use Rattle.counter.specs.Counters.{raised}
use Rattle.weighing.specs.Calls.{Span}
use Rattle.rising.specs.Sums.{sum_first}
use Rattle.weighing.specs.Verdicts.{next_verdict}

-- no reading is above 65,535
abbrev pub Small : List ℕ → Type 0
Small x = (i : ℕ) → i < length x → slice_index x i ≤ 65535

-- no reading is below an earlier one
abbrev pub Rising : List ℕ → Type 0
Rising x = (i j : ℕ) → i ≤ j → j < length x → slice_index x i ≤ slice_index x j

-- the running sums: at each place the sum of so many readings
abbrev pub Summed : List ℕ → List ℕ → Type 0
Summed x sums = (i : ℕ) → i ≤ length x → slice_index sums i ≡ sum_first x i

-- the last reading; 0 where there is none, so that nothing falls below it
abbrev pub last : List ℕ → ℕ
last x = slice_index x (length x - 1)

-- the verdict on a reading that is to follow x: 1 where x has 512, then 2 above 65,535, then 3 below the last
abbrev pub rising_verdict : List ℕ → ℕ → ℕ
rising_verdict x = next_verdict (length x) (last x)

-- what a weighing means that holds rising readings: its weights and levels go by the list of them
abbrev pub rising_meaning : {W : Type 0} → (W → List ℕ) → (List ℕ → ℕ → ℕ → ℕ) → (List ℕ → ℕ → ℕ → ℕ) → (W → ℕ) → Ghosts W
rising_meaning list weight level count =
    record {
      held = λ s. length (list s);
      weight = λ s. weight (list s);
      level = λ s. level (list s);
      verdict = λ s. rising_verdict (list s);
      top = λ s. 33553920;
      count = count;
    }

module _ {W : Type 0} (list : W → List ℕ) (s t : W) where
  -- a take is refused with the verdict, or the reading follows those that were held
  abbrev pub Pushes : ℕ → Result ℕ Refusal → Type 0
  Pushes reading (Ok n) = (rising_verdict (list s) reading ≡ 0) × (n ≡ length (list s) + 1) × (list t ≡ list s ++ reading ∷ [])
  Pushes reading (Err why) = Broken (rising_verdict (list s) reading ≡ 0) (rising_verdict (list s) reading) NoOther why × (t ≡ s)

  -- a drop is refused where nothing is held, or the last reading is gone
  abbrev pub Pops : Result ℕ Refusal → Type 0
  Pops (Ok n) = (0 < length (list s)) × (n ≡ length (list s) - 1) × (list t ≡ take (length (list s) - 1) (list s))
  Pops (Err why) = Broken (0 < length (list s)) 5 NoOther why × (t ≡ s)

  -- a wipe leaves no reading
  abbrev pub Empties : ℕ → Type 0
  Empties n = (n ≡ 0) × (list t ≡ [])

  -- a weigh of a span is answered with its weight by the readings, and counted
  abbrev pub WeighsBy : (List ℕ → ℕ → ℕ → ℕ) → (W → ℕ) → ℕ → ℕ → Result ℕ Refusal → Type 0
  WeighsBy weight told a b (Ok v) = Span (length (list s)) a b × (v ≡ weight (list s) a b) × (told t ≡ raised (told s))
  WeighsBy weight told a b (Err why) = Broken (Span (length (list s)) a b) 8 NoOther why × (t ≡ s)
