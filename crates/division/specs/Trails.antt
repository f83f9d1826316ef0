-- Tallies and last cuts that are right, and the division that following the last cuts back gives.
use Rattle.std.specs.Prelude.{◌≡◌, ℕ, zero, suc, ◌<◌, ◌≤◌, List, [], ◌∷◌, ◌++◌}
use Rattle.search.specs.Least.{Leftmost}
use Rattle.division.specs.declared.cost.Cost.{Cost}
use Rattle.division.specs.declared.cost.Cost.TheVariants.{Number}
use Rattle.division.specs.Costs.{before}
use Rattle.division.specs.Divisions.{Tally, Best, total}
use Rattle.division.specs.Rounds.{LastCut}

-- Up to `rounds` spans and n readings, each tally is the true one, and where it is a number the last cut is too.
pub record Sound (weight : ℕ → ℕ → ℕ) (tally : ℕ → ℕ → Cost) (cut : ℕ → ℕ → ℕ) (rounds n : ℕ) : Type 0 where
  pub tallied : (k j : ℕ) → k ≤ rounds → j ≤ n → Tally weight k j (tally k j)
  pub cuts : (k j v : ℕ) → k < rounds → j ≤ n → tally (suc k) j ≡ Number v → LastCut weight k j (cut (suc k) j)

-- the ends of k spans of j readings: the last is j, and those before it are the ends of what its last cut leaves
abbrev pub trail : (ℕ → ℕ → ℕ) → ℕ → ℕ → List ℕ
trail cut zero j = []
trail cut (suc k) j = trail cut k (cut (suc k) j) ++ (j ∷ [])

-- the trail of the fewest spans with the least tally is the best division, and that tally its weight
abbrev pub TrailsStand : Type 0
TrailsStand = (weight : ℕ → ℕ → ℕ) (tally : ℕ → ℕ → Cost) (cut : ℕ → ℕ → ℕ) (rounds n k s : ℕ)
    → Sound weight tally cut rounds n
    → 0 < n
    → k ≤ rounds
    → Leftmost before (λ q. tally q n) 1 k s
    → Best weight n k (trail cut s n) × (tally s n ≡ Number (total weight 0 (trail cut s n)))
