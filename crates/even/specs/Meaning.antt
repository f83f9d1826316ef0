-- What an even weighing means.
use Rattle.std.specs.Prelude.{◌≡◌}
use Rattle.weighing.specs.declared.weighing.Weighing.{Ghosts}
use Rattle.even.specs.declared.Even.{Even}
use Rattle.even.specs.Evens.{even_weight, even_verdict, even_top}

abbrev pub even_meaning : Ghosts Even
even_meaning =
    record {
      held = λ s. s.n;
      weight = λ s. even_weight s.nominal;
      level = λ s a b. 0;
      verdict = λ s. even_verdict s.nominal s.n;
      top = λ s. even_top s.nominal;
      count = λ s. s.weighs.told;
    }

-- the nominal length and the weighs counted are as they were
abbrev pub KeepsAllButReadings : Even → Even → Type 0
KeepsAllButReadings s t = (t.nominal ≡ s.nominal) × (t.weighs ≡ s.weighs)
