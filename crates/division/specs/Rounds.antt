-- A round: how the tallies of k + 1 spans come from those of k, what a last cut is, and the law of a round's entries.
use Rattle.std.specs.Prelude.{◌≡◌, ℕ, zero, suc, ◌+◌, ◌<◌, ◌≤◌, true, cond, List, nat_lt}
use Rattle.search.specs.Least.{Leftmost}
use Rattle.division.specs.declared.cost.Cost.{Cost}
use Rattle.division.specs.declared.cost.Cost.TheVariants.{Number, Empty}
use Rattle.division.specs.Costs.{before, plus}
use Rattle.division.specs.Divisions.{Division, Least, Tally, total}

-- the tallies of no spans: 0 at no readings, otherwise empty
abbrev pub no_spans : ℕ → Cost
no_spans zero = Number 0
no_spans (suc j) = Empty

-- the entry for j readings whose last span starts at a, over the tallies of one span less
abbrev pub round_entry : (ℕ → ℕ → ℕ) → (ℕ → Cost) → ℕ → ℕ → Cost
round_entry weight tallies j a = cond (nat_lt a j) (plus (tallies a) (weight a j)) Empty

-- of the lightest divisions of the first j readings into k + 1 spans, some last span starts at a, and none further left
pub record LastCut (weight : ℕ → ℕ → ℕ) (k j a : ℕ) : Type 0 where
  pub inside : a < j
  pub front : (ends : List ℕ) × Division k a ends × Least weight (suc k) j (total weight 0 ends + weight a j)
  pub leftmost : (b : ℕ) (ends : List ℕ) → b < j → Division k b ends → Least weight (suc k) j (total weight 0 ends + weight b j) → a ≤ b

-- the leftmost least entry for j readings is their tally, and where that is a number its column is the last cut
abbrev pub RoundsStand : Type 0
RoundsStand = (weight : ℕ → ℕ → ℕ) (tallies : ℕ → Cost) (k j columns c : ℕ)
    → ((a : ℕ) → a < j → Tally weight k a (tallies a))
    → j ≤ columns
    → Leftmost before (round_entry weight tallies j) 0 columns c
    → Tally weight (suc k) j (round_entry weight tallies j c) × ((v : ℕ) → round_entry weight tallies j c ≡ Number v → LastCut weight k j c)

-- the quadrangle inequality among the first n readings
abbrev pub Quadrangle : (ℕ → ℕ → ℕ) → ℕ → Type 0
Quadrangle weight n = (a b c d : ℕ) → a < b → b < c → c < d → d ≤ n → weight a c + weight b d ≤ weight a d + weight b c

-- a round's entries are totally monotone under the quadrangle inequality, whatever its tallies are
abbrev pub RoundsLawful : Type 0
RoundsLawful = (weight : ℕ → ℕ → ℕ) (tallies : ℕ → Cost) (n i j a b : ℕ) → Quadrangle weight n
    → i < j → j ≤ n → a < b
    → before (round_entry weight tallies i b) (round_entry weight tallies i a) ≡ true
    → before (round_entry weight tallies j b) (round_entry weight tallies j a) ≡ true
