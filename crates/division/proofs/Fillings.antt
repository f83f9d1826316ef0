-- A table that is filled round by round is right, and stays right.
use Rattle.std.proofs.Common.{◌≡◌, ℕ, zero, suc, ◌+◌, ◌<◌, ◌≤◌, ◌⊎◌, List, [], ◌∷◌, sym, refl, ◌∙◌, subst, inl, inr, arith}
use Rattle.std.proofs.lemmas.Bool.{cases_lt}
use Rattle.division.specs.declared.cost.Cost.{Cost}
use Rattle.division.specs.declared.cost.Cost.TheVariants.{Number, Empty}
use Rattle.division.specs.declared.table.Table.{Table}
use Rattle.division.specs.Divisions.{Divides, Division, Least, Tally, total}
use Rattle.division.specs.Fillings.{Light, SameSpans, Filled, FillingsStand, TablesStay}
use Rattle.division.specs.Rounds.{LastCut}
use Rattle.division.specs.Tables.{tally_at, cut_at, carried_at, Right}
use Rattle.division.proofs.Rounds.{rounds_stand}
use Rattle.division.proofs.Snoc.{divides_le}
use Rattle.division.proofs.Tables.{carry_tally}
use Rattle.division.proofs.Tallies.{zero_tally}

module _ (weight : ℕ → ℕ → ℕ) (t : Table) (rounds m n : ℕ) (few : rounds ≤ 8) (light : Light weight n)
    (right : Right weight t rounds m)
    (filled : (k j : ℕ) → k < rounds → m < j → j ≤ n → Filled weight t n k j) where
  -- the cells of k + 1 spans are right where those of k are
  round : (k : ℕ) → k < rounds → ((j : ℕ) → j ≤ n → Tally weight k j (tally_at t k j)) → (j : ℕ) → j ≤ n
      → Tally weight (suc k) j (tally_at t (suc k) j) × ((v : ℕ) → tally_at t (suc k) j ≡ Number v → LastCut weight k j (cut_at t (suc k) j))
  round k h above j g = go (cases_lt m j)
    where
      carried : (a : ℕ) → a ≤ n → Tally weight k a (carried_at t k a)
      carried a i = subst (Tally weight k a) (sym (carry_tally weight n k a (tally_at t k a) light (omega arith) i (above a i))) (above a i)

      go : (m < j) ⊎ (j ≤ m) → Tally weight (suc k) j (tally_at t (suc k) j) × ((v : ℕ) → tally_at t (suc k) j ≡ Number v → LastCut weight k j (cut_at t (suc k) j))
      go (inl i) =
          let f = filled k j h i g in
          let r = rounds_stand weight (carried_at t k) k j n (cut_at t (suc k) j) (λ a l. carried a (omega arith)) g f.least in
          (subst (Tally weight (suc k) j) (sym f.put) r.0, λ v e. r.1 v (sym f.put ∙ e))
      go (inr i) = (right.tallied (suc k) j h i, λ v e. right.cuts k j v h i e)

  tallied : (k : ℕ) → k ≤ rounds → (j : ℕ) → j ≤ n → Tally weight k j (tally_at t k j)
  tallied zero h j g = zero_tally weight j
  tallied (suc k) h j g = (round k h (tallied k (omega arith)) j g).0

  filled_right : Right weight t rounds n
  filled_right = record { tallied = λ k j h. tallied k h j; cuts = λ k j v h g. (round k h (tallied k (omega arith)) j g).1 v }

pub fillings_stand : FillingsStand
fillings_stand = filled_right

module _ (weight other : ℕ → ℕ → ℕ) (n : ℕ) (same : SameSpans weight other n) where
  total_same : (from : ℕ) (ends : List ℕ) (to : ℕ) → Divides from ends to → to ≤ n → total weight from ends ≡ total other from ends
  total_same from [] to d h = refl
  total_same from (e ∷ ends) to d h =
      let l = divides_le e ends to d.1 in
      omega (arith, same from e d.0 (omega arith), total_same e ends to d.1 h)

  pub least_same : (k j v : ℕ) → j ≤ n → Least weight k j v → Least other k j v
  least_same k j v h l =
      let r = l.reached in
      record {
        reached = (r.0, r.1, sym (total_same 0 r.0 j r.1.divides h) ∙ r.2);
        least = λ ends d. omega (arith, l.least ends d, total_same 0 ends j d.divides h);
      }

  pub tally_same : (k j : ℕ) (t : Cost) → j ≤ n → Tally weight k j t → Tally other k j t
  tally_same k j (Number v) h l = least_same k j v h l
  tally_same k j Empty h none = none

last_cut_same : (weight other : ℕ → ℕ → ℕ) (n : ℕ) → SameSpans weight other n → (k j a : ℕ) → j ≤ n → LastCut weight k j a → LastCut other k j a
last_cut_same weight other n same k j a h c =
    record {
      inside = c.inside;
      front = (c.front.0, c.front.1, subst (Least other (suc k) j) (moved a c.front.0 c.inside c.front.1) (least_same weight other n same (suc k) j _ h c.front.2));
      leftmost = λ b ends g d l.
          c.leftmost b ends g d (subst (Least weight (suc k) j) (sym (moved b ends g d)) (least_same other weight n back (suc k) j _ h l));
    }
  where
    back : SameSpans other weight n
    back a b g l = sym (same a b g l)

    moved : (b : ℕ) (ends : List ℕ) → b < j → Division k b ends → total weight 0 ends + weight b j ≡ total other 0 ends + other b j
    moved b ends g d = omega (arith, same b j g h, total_same weight other n same 0 ends b d.divides (omega arith))

pub tables_stay : TablesStay
tables_stay weight other t u rounds m n l same cells right =
    record {
      tallied = λ k j h g.
          subst (Tally other k j) (sym (cells k j h g).0) (tally_same weight other m same k j (tally_at t k j) g (right.tallied k j h (omega arith)));
      cuts = λ k j v h g e.
          subst (LastCut other k j) (sym (cells (suc k) j h g).1) (last_cut_same weight other m same k j (cut_at t (suc k) j) g (right.cuts k j v h (omega arith) (sym (cells (suc k) j h g).0 ∙ e)));
    }
