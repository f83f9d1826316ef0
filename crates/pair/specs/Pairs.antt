-- The pair: two weighings of the same readings as one, of which the first counts before the second.
use Rattle.std.specs.Prelude.{◌≡◌, ℕ, ◌+◌, ◌-◌, ◌*◌, ◌^◌, Bool, true, false, cond, ◌&&◌, Ok, Err, Result, ◌==◌, nat_le}
use Rattle.refusal.specs.declared.Refusal.{Refusal}
use Rattle.weighing.specs.declared.weighing.Weighing.{Ghosts}
use Rattle.pair.specs.declared.Pair.{Pair}
use Rattle.weighing.specs.Did.{TakeDid, DropDid, WipeDid, WeighDid}

-- two numbers as one, the first counting before the second
abbrev pub joined : ℕ → ℕ → ℕ
joined first second = first * 2 ^ 30 + second

-- the first verdict, or the second where the first is 0
abbrev pub either_verdict : ℕ → ℕ → ℕ
either_verdict first second = cond (first == 0) second first

module _ {F S : Type 0} (m : Ghosts F) (n : Ghosts S) where
  -- whether the first's top is at most 2^29 - 1, the second's at most 2^27 - 1, and both hold as many readings; if not, it is a misfit
  abbrev pub pair_fits : Pair F S → Bool
  pair_fits s = nat_le (m.top s.first) (2 ^ 29 - 1) && (nat_le (n.top s.second) (2 ^ 27 - 1) && m.held s.first == n.held s.second)

  -- the meaning of a pair; of a misfit n and top are 0, and the verdict is 4
  abbrev pub paired : Ghosts (Pair F S)
  paired =
      record {
        held = λ s. cond (pair_fits s) (m.held s.first) 0;
        weight = λ s a b. joined (m.weight s.first a b) (n.weight s.second a b);
        level = λ s. m.level s.first;
        verdict = λ s reading. cond (pair_fits s) (either_verdict (m.verdict s.first reading) (n.verdict s.second reading)) 4;
        top = λ s. cond (pair_fits s) (joined (m.top s.first) (n.top s.second)) 0;
        count = λ s. m.count s.first;
      }

  module _ (s t : Pair F S) where
    -- no call alters whether the sides fit, and none touches a misfit
    pub record StillPaired : Type 0 where
      pub fit_same : pair_fits t ≡ pair_fits s
      pub misfit_same : pair_fits s ≡ false → t ≡ s

    -- what is answered was done by both sides
    abbrev pub BothTake : ℕ → Result ℕ Refusal → Type 0
    BothTake reading (Ok k) = TakeDid m s.first t.first reading (Ok k) × TakeDid n s.second t.second reading (Ok k)
    BothTake reading (Err why) = Unit {0}

    abbrev pub BothDrop : Result ℕ Refusal → Type 0
    BothDrop (Ok k) = DropDid m s.first t.first (Ok k) × DropDid n s.second t.second (Ok k)
    BothDrop (Err why) = Unit {0}

    abbrev pub BothWipe : Type 0
    BothWipe = pair_fits s ≡ true → WipeDid m s.first t.first 0 × WipeDid n s.second t.second 0

    abbrev pub BothWeigh : ℕ → ℕ → Result ℕ Refusal → Type 0
    BothWeigh a b (Ok v) =
        WeighDid m s.first t.first a b (Ok (m.weight s.first a b)) × WeighDid n s.second t.second a b (Ok (n.weight s.second a b))
    BothWeigh a b (Err why) = Unit {0}
