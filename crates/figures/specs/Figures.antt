-- Figures that were worked out by hand: cases of an exact question, of a divide and of a search for the farthest corners, each
-- with its answer, and what it means that the answer is right.
use Rattle.std.specs.Prelude.{◌≡◌, ℕ, ◌≤◌, List, [], ◌∷◌, length, pos}
use Rattle.std.specs.List.{AllByRecursion}
use Rattle.weighing.specs.declared.weighing.Weighing.{Ghosts}
use Rattle.charge.specs.declared.Charge.{Charge}
use Rattle.pair.specs.declared.Pair.{Pair}
use Rattle.rising.specs.Rows.{rising_verdict}
use Rattle.rising.specs.Ceilings.{ceiling_weight, ceiling_level}
use Rattle.rising.specs.Middles.{middle_weight, middle_level}
use Rattle.even.specs.Evens.{even_weight, even_verdict, even_top}
use Rattle.charge.specs.Charges.{charged}
use Rattle.pair.specs.Pairs.{paired}
use Rattle.division.specs.Divisions.{Divides, Least, Best, total}
use Rattle.hull.specs.declared.corner.Corner.{Corner}
use Rattle.hull.specs.Convex.{Enough, AllNear, AllLeft}
use Rattle.hull.specs.Widest.{AllFarthest}

-- A case: the weights of the spans of n readings, how many spans are asked for, and the figure.
pub data Case : Type 0 where
  -- the least weight of exactly k spans
  exactly : (weight : ℕ → ℕ → ℕ) (n k least : ℕ) → Case
  -- the ends of the best division into at most k spans, and its weight
  divided : (weight : ℕ → ℕ → ℕ) (n k : ℕ) (ends : List ℕ) (weighs : ℕ) → Case
  -- the ends of another division into at most k spans, which is not the best, and its weight
  passed_over : (weight : ℕ → ℕ → ℕ) (n k : ℕ) (ends : List ℕ) (weighs : ℕ) → Case
  -- the corners of a hull, and of each the number of the corner farthest from it
  farthest : (corners : List Corner) (partners : List ℕ) → Case

-- the figure of the case is right
abbrev pub Holds : Case → Type 0
Holds (exactly weight n k least) = Least weight k n least
Holds (divided weight n k ends weighs) = Best weight n k ends × (total weight 0 ends ≡ weighs)
Holds (passed_over weight n k ends weighs) =
    Divides 0 ends n × (length ends ≤ k) × (total weight 0 ends ≡ weighs) × (Best weight n k ends → ⊥)
Holds (farthest corners partners) =
    Enough corners × AllNear corners × AllLeft corners × (length partners ≡ length corners) × AllFarthest corners partners

-- What the kinds of weighing mean, by the definitions that their contracts cite, over a plain list of readings or over a nominal
-- length and a number of readings. Nothing was weighed yet.
abbrev pub ceilings : Ghosts (List ℕ)
ceilings =
    record { held = length; weight = ceiling_weight; level = ceiling_level; verdict = rising_verdict; top = λ x. 33553920; count = λ x. 0 }

abbrev pub middles : Ghosts (List ℕ)
middles =
    record { held = length; weight = middle_weight; level = middle_level; verdict = rising_verdict; top = λ x. 33553920; count = λ x. 0 }

pub record Evenly : Type 0 where
  pub nominal : ℕ
  pub readings : ℕ

abbrev pub evens : Ghosts Evenly
evens =
    record {
      held = λ e. e.readings;
      weight = λ e. even_weight e.nominal;
      level = λ e a b. 0;
      verdict = λ e. even_verdict e.nominal e.readings;
      top = λ e. even_top e.nominal;
      count = λ e. 0;
    }

-- the cases of a weighing, over all readings that it holds
module _ {W : Type 0} (m : Ghosts W) (w : W) where
  abbrev pub exact : ℕ → ℕ → Case
  exact = exactly (m.weight w) (m.held w)

  abbrev pub divide : ℕ → List ℕ → ℕ → Case
  divide = divided (m.weight w) (m.held w)

  abbrev pub not_best : ℕ → List ℕ → ℕ → Case
  not_best = passed_over (m.weight w) (m.held w)

-- a lead whose loss rises in stages
abbrev pub stages : List ℕ
stages = 2 ∷ 2 ∷ 5 ∷ 9 ∷ 9 ∷ []

-- one whose loss rises evenly
abbrev pub line : List ℕ
line = 0 ∷ 5 ∷ 10 ∷ []

abbrev pub stages_charged : Charge (List ℕ)
stages_charged = record { inner = stages; charge = 10 }

abbrev pub flat_and_even : Pair (List ℕ) Evenly
flat_and_even = record { first = 2 ∷ 2 ∷ 2 ∷ 2 ∷ []; second = record { nominal = 2; readings = 4 } }

abbrev pub corner : ℕ → ℕ → Corner
corner x y = record { x = pos x; y = pos y }

-- the figures: the number of spans that is asked for, then the answer
abbrev pub cases : List Case
cases =
    exact ceilings stages 1 18
    ∷ exact ceilings stages 2 4
    ∷ exact ceilings stages 3 0
    ∷ divide ceilings stages 2 (2 ∷ 5 ∷ []) 4
    -- to cut at the greatest rise is wrong
    ∷ not_best ceilings stages 2 (3 ∷ 5 ∷ []) 6
    -- a second span would save nothing
    ∷ divide ceilings (2 ∷ 2 ∷ []) 2 (2 ∷ []) 0
    -- of two that weigh the same, the one whose breakpoint is earlier
    ∷ divide middles line 2 (1 ∷ 3 ∷ []) 5
    ∷ not_best middles line 2 (2 ∷ 3 ∷ []) 5
    ∷ divide evens (record { nominal = 2; readings = 5 }) 2 (2 ∷ 5 ∷ []) 1
    -- a third span costs more than it saves
    ∷ divide (charged ceilings) stages_charged 3 (2 ∷ 5 ∷ []) 24
    -- where all ceilings are level, the lengths decide
    ∷ divide (paired ceilings evens) flat_and_even 3 (2 ∷ 4 ∷ []) 0
    ∷ farthest (corner 0 0 ∷ corner 4 0 ∷ corner 4 4 ∷ corner 0 4 ∷ []) (2 ∷ 3 ∷ 0 ∷ 1 ∷ [])
    -- of two that are as far, the first met counterclockwise
    ∷ farthest (corner 0 0 ∷ corner 4 3 ∷ corner 3 4 ∷ []) (1 ∷ 0 ∷ 0 ∷ [])
    ∷ []

-- every figure is right
abbrev pub FiguresStand : Type 0
FiguresStand = AllByRecursion Holds cases
