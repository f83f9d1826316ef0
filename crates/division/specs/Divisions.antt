-- Divisions of readings into spans, what they weigh, and which of them a divide answers.
-- A division of the first n readings is the rising list of its ends, the last of which is n; each span runs from the
-- end before it, the first from 0. Its ends but the last are its breakpoints.
use Rattle.std.specs.Prelude.{◌≡◌, ℕ, ◌+◌, ◌<◌, ◌≤◌, ◌⊎◌, List, [], ◌∷◌, length, slice_index}
use Rattle.division.specs.declared.cost.Cost.{Cost}
use Rattle.division.specs.declared.cost.Cost.TheVariants.{Number, Empty}

-- the ends rise from `from`, each above the one before, and the last is `to`
abbrev pub Divides : ℕ → List ℕ → ℕ → Type 0
Divides from [] to = from ≡ to
Divides from (e ∷ ends) to = (from < e) × Divides e ends to

-- the sum of the weights of the spans, the first of which starts at `from`
abbrev pub total : (ℕ → ℕ → ℕ) → ℕ → List ℕ → ℕ
total weight from [] = 0
total weight from (e ∷ ends) = weight from e + total weight e ends

-- a division of the first j readings into exactly k spans
pub record Division (k j : ℕ) (ends : List ℕ) : Type 0 where
  pub divides : Divides 0 ends j
  pub many : length ends ≡ k

-- v is the least weight of a division of the first j readings into exactly k spans
pub record Least (weight : ℕ → ℕ → ℕ) (k j v : ℕ) : Type 0 where
  pub reached : (ends : List ℕ) × Division k j ends × (total weight 0 ends ≡ v)
  pub least : (ends : List ℕ) → Division k j ends → v ≤ total weight 0 ends

-- the tally of k and j: that least weight, or empty where there is no such division
abbrev pub Tally : (ℕ → ℕ → ℕ) → ℕ → ℕ → Cost → Type 0
Tally weight k j (Number v) = Least weight k j v
Tally weight k j Empty = (ends : List ℕ) → Division k j ends → ⊥

-- At the last place where the two lists differ, the end of `others` is later.
-- Two divisions of the same readings have the same last end, so that place is one of their breakpoints.
pub record LaterCut (ends others : List ℕ) : Type 0 where
  pub place : ℕ
  pub later : slice_index ends place < slice_index others place
  pub same_after : (p : ℕ) → place < p → slice_index ends p ≡ slice_index others p

-- `others` has more spans; or it has as many, and at the last place where their breakpoints differ its own is later
abbrev pub Behind : List ℕ → List ℕ → Type 0
Behind ends others = (length ends < length others) ⊎ ((length others ≡ length ends) × LaterCut ends others)

-- The division of n readings into at most k spans that a divide answers: every other one weighs at least as much, and
-- one that weighs the same is behind it.
pub record Best (weight : ℕ → ℕ → ℕ) (n k : ℕ) (ends : List ℕ) : Type 0 where
  pub divides : Divides 0 ends n
  pub few : length ends ≤ k
  pub least : (others : List ℕ) → Divides 0 others n → length others ≤ k → total weight 0 ends ≤ total weight 0 others
  pub ties : (others : List ℕ) → Divides 0 others n → length others ≤ k → total weight 0 others ≡ total weight 0 ends → (others ≡ ends) ⊎ Behind ends others

-- there is at most one best division
abbrev pub BestIsOne : Type 0
BestIsOne = (weight : ℕ → ℕ → ℕ) (n k : ℕ) (ends others : List ℕ) → Best weight n k ends → Best weight n k others → ends ≡ others

-- and of some readings into some spans there is one, whatever the weights
abbrev pub BestIsThere : Type 0
BestIsThere = (weight : ℕ → ℕ → ℕ) (n k : ℕ) → 0 < n → 0 < k → (ends : List ℕ) × Best weight n k ends
