-- What the cells of a table say, when a table is right, and what a put leaves.
-- A table has a cell for each number of spans from 1 to 8 and each number of readings from 0 to 512.
use Rattle.std.specs.Prelude.{◌≡◌, ℕ, zero, suc, ◌+◌, ◌-◌, ◌*◌, ◌^◌, ◌<◌, ◌≤◌, min, cond, nat_lt, slice_index}
use Rattle.division.specs.declared.cost.Cost.{Cost}
use Rattle.division.specs.declared.cost.Cost.TheVariants.{Number, Empty}
use Rattle.division.specs.declared.table.Table.{Table}
use Rattle.division.specs.Costs.{Small}
use Rattle.division.specs.Rounds.{no_spans}
use Rattle.division.specs.Trails.{Sound}

-- a cell holds one more than its number, which is below 2^62; 0 says empty, and so does what is too great
abbrev pub cost_of : ℕ → Cost
cost_of zero = Empty
cost_of (suc v) = cond (nat_lt v (2 ^ 62)) (Number v) Empty

-- what there is where k + 1 spans of j readings have a cell, and what there is otherwise
abbrev pub if_cell : {X : Type 0} → ℕ → ℕ → X → X → X
if_cell k j inside outside = cond (nat_lt k 8) (cond (nat_lt j 513) inside outside) outside

-- the tally that the table gives for a number of spans and of readings; empty where there is no cell
abbrev pub tally_at : Table → ℕ → ℕ → Cost
tally_at t zero j = no_spans j
tally_at t (suc k) j = if_cell k j (cost_of (slice_index t.tallies (k * 513 + j))) Empty

-- the last cut that it gives, at most 512; 0 where there is no cell
abbrev pub cut_at : Table → ℕ → ℕ → ℕ
cut_at t zero j = 0
cut_at t (suc k) j = if_cell k j (min 512 (slice_index t.cuts (k * 513 + j))) 0

-- a round takes a tally above 7 × (2^59 - 1) for empty, so that a span's weight more is still below 2^62
abbrev pub carry : Cost → Cost
carry (Number v) = cond (nat_lt (7 * (2 ^ 59 - 1)) v) Empty (Number v)
carry Empty = Empty

-- what a round takes for a number, seven spans weigh at most
abbrev pub Carriable : Cost → Type 0
Carriable (Number v) = v ≤ 7 * (2 ^ 59 - 1)
Carriable Empty = Unit {0}

-- the tally that the round of k + 1 spans works from
abbrev pub carried_at : Table → ℕ → ℕ → Cost
carried_at t k j = carry (tally_at t k j)

-- the table is right up to `rounds` spans and n readings
abbrev pub Right : (ℕ → ℕ → ℕ) → Table → ℕ → ℕ → Type 0
Right weight t rounds n = Sound weight (tally_at t) (cut_at t) rounds n

-- every cell is empty
abbrev pub Fresh : Table → Type 0
Fresh t = (k j : ℕ) → (tally_at t (suc k) j ≡ Empty) × (cut_at t (suc k) j ≡ 0)

-- there is a cell for k spans of j readings, and it can hold the cost and the cut
pub record Fits (k j : ℕ) (cost : Cost) (cut : ℕ) : Type 0 where
  pub some : 0 < k
  pub few : k ≤ 8
  pub readings : j ≤ 512
  pub small : Small cost
  pub near : cut ≤ 512

-- the cell of k spans and j readings holds the cost and the cut where they fit it, and otherwise nothing changed
pub record Put (k j : ℕ) (cost : Cost) (cut : ℕ) (old new : Table) : Type 0 where
  pub here : Fits k j cost cut → (tally_at new k j ≡ cost) × (cut_at new k j ≡ cut)
  pub others : (p i : ℕ) → ((p ≡ k) × (i ≡ j) → ⊥) → (tally_at new p i ≡ tally_at old p i) × (cut_at new p i ≡ cut_at old p i)
  pub unfit : (Fits k j cost cut → ⊥) → new ≡ old
