-- Two best divisions are one; and there is one, read off tables that hold for any weights.
use Rattle.std.proofs.Common.{◌≡◌, ℕ, zero, suc, ◌+◌, ◌<◌, ◌≤◌, Bool, true, false, cond, ◌⊎◌, List, sym, refl, inl, inr, ⊎_elim, le_antisymm, arith}
use Rattle.std.proofs.lemmas.Bool.{cases_order}
use Rattle.search.specs.Least.{Leftmost}
use Rattle.search.proofs.Least.{leftmost_of_one}
use Rattle.division.specs.declared.cost.Cost.{Cost}
use Rattle.division.specs.Costs.{before}
use Rattle.division.specs.Divisions.{Tally, LaterCut, Behind, Best, BestIsOne, BestIsThere, total}
use Rattle.division.specs.Rounds.{round_entry, no_spans}
use Rattle.division.specs.Trails.{Sound, trail}
use Rattle.division.proofs.Costs.{order, leftmost_moves, leftmost_stays}
use Rattle.division.proofs.Rounds.{rounds_stand}
use Rattle.division.proofs.Tallies.{zero_tally}
use Rattle.division.proofs.Trails.{trails_stand}

not_both_later : (xs ys : List ℕ) → LaterCut xs ys → LaterCut ys xs → ⊥
not_both_later xs ys p q = go (cases_order p.place q.place)
  where
    go : (p.place ≡ q.place) ⊎ ((p.place < q.place) ⊎ (q.place < p.place)) → ⊥
    go (inr (inl h)) = omega (arith, p.same_after q.place h, q.later)
    go (inl e) = let l = q.later in omega (arith, p.later, rw (← e) at l)
    go (inr (inr h)) = omega (arith, q.same_after p.place h, p.later)

not_both_behind : (xs ys : List ℕ) → Behind xs ys → Behind ys xs → ⊥
not_both_behind xs ys (inl p) (inl q) = omega arith
not_both_behind xs ys (inl p) (inr q) = omega arith
not_both_behind xs ys (inr p) (inl q) = omega arith
not_both_behind xs ys (inr p) (inr q) = not_both_later xs ys p.1 q.1

pub best_is_one : BestIsOne
best_is_one weight n k xs ys p q =
    let e : total weight 0 xs ≡ total weight 0 ys =
    le_antisymm (p.least ys q.divides q.few) (q.least xs p.divides p.few) in
    ⊎_elim sym (λ b. ⊎_elim (λ s. s) (λ d. absurd (not_both_behind xs ys b d)) (q.ties xs p.divides p.few e)) (p.ties ys q.divides q.few (sym e))

-- the leftmost least of the m + 1 entries from `first` on
abbrev pub column : (ℕ → Cost) → ℕ → ℕ → ℕ
column entry first zero = first
column entry first (suc m) = cond (before (entry (first + suc m)) (entry (column entry first m))) (first + suc m) (column entry first m)

pub column_stands : (entry : ℕ → Cost) (first m : ℕ) → Leftmost before entry first (suc m) (column entry first m)
column_stands entry first zero = leftmost_of_one order entry first
column_stands entry first (suc m) = go (before (entry (first + suc m)) (entry (column entry first m))) refl (column_stands entry first m)
  where
    go : (b : Bool) → before (entry (first + suc m)) (entry (column entry first m)) ≡ b → Leftmost before entry first (suc m) (column entry first m) → Leftmost before entry first (suc (suc m)) (cond b (first + suc m) (column entry first m))
    go true e l = leftmost_moves entry first (suc m) (column entry first m) (first + suc m) (suc (suc m)) l refl (omega arith) e
    go false e l = leftmost_stays entry first (suc m) (column entry first m) (first + suc m) (suc (suc m)) l refl (omega arith) e

-- the tallies of k spans, over m + 1 columns, and the last cuts
abbrev pub row : (ℕ → ℕ → ℕ) → ℕ → ℕ → ℕ → Cost
row weight m zero j = no_spans j
row weight m (suc k) j = round_entry weight (row weight m k) j (column (round_entry weight (row weight m k) j) 0 m)

abbrev pub last : (ℕ → ℕ → ℕ) → ℕ → ℕ → ℕ → ℕ
last weight m zero j = 0
last weight m (suc k) j = column (round_entry weight (row weight m k) j) 0 m

module _ (weight : ℕ → ℕ → ℕ) (m : ℕ) where
  right : (k j : ℕ) → j ≤ suc m → Tally weight k j (row weight m k j)
  right zero j h = zero_tally weight j
  right (suc k) j h = (rounds_stand weight (row weight m k) k j (suc m) (last weight m (suc k) j) (λ a g. right k a (omega arith)) h (column_stands (round_entry weight (row weight m k) j) 0 m)).0

  pub tables : (rounds : ℕ) → Sound weight (row weight m) (last weight m) rounds (suc m)
  tables rounds =
      record {
        tallied = λ k j h g. right k j g;
        cuts = λ k j v h g e.
            (rounds_stand weight (row weight m k) k j (suc m) (last weight m (suc k) j) (λ a i. right k a (omega arith)) g (column_stands (round_entry weight (row weight m k) j) 0 m)).1 v e;
      }

  -- the best division of m + 1 readings into at most l + 1 spans
  unfoldable pub ends_of : ℕ → List ℕ
  ends_of l = trail (last weight m) (column (λ k. row weight m k (suc m)) 1 l) (suc m)

  pub ends_best : (l : ℕ) → Best weight (suc m) (suc l) (ends_of l)
  unfolding ends_of
  ends_best l =
      (trails_stand weight (row weight m) (last weight m) (suc l) (suc m) (suc l) (column (λ k. row weight m k (suc m)) 1 l) (tables (suc l)) (omega arith) (omega arith) (column_stands (λ k. row weight m k (suc m)) 1 l)).0

pub best_is_there : BestIsThere
best_is_there weight zero k h g = absurd (omega arith)
best_is_there weight (suc m) zero h g = absurd (omega arith)
best_is_there weight (suc m) (suc l) h g = (ends_of weight m l, ends_best weight m l)
