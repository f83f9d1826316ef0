-- Fresh tables; and that a round may carry every right tally of at most seven spans.
use Rattle.std.proofs.Common.{◌≡◌, ℕ, zero, suc, ◌+◌, ◌-◌, ◌*◌, ◌^◌, ◌<◌, ◌≤◌, min, Bool, true, false, cond, ltb, replicate, sym, refl, ap, ◌∙◌, subst, arith, ltb-false, ltb-true, le-ltb}
use Rattle.std.proofs.lemmas.List.{get_or-replicate}
use Rattle.division.specs.declared.cost.Cost.{Cost}
use Rattle.division.specs.declared.cost.Cost.TheVariants.{Number, Empty}
use Rattle.division.specs.declared.table.Table.{Table}
use Rattle.division.specs.Costs.{Small}
use Rattle.division.specs.Divisions.{Tally}
use Rattle.division.specs.Fillings.{Light}
use Rattle.division.specs.Rounds.{round_entry}
use Rattle.division.specs.Tables.{cost_of, if_cell, tally_at, carry, carried_at, Carriable, Right, Fresh}
use Rattle.division.proofs.Rounds.{comes}
use Rattle.division.proofs.Tallies.{tally_le, too_many, zero_tally}

module _ {X : Type 0} (k j : ℕ) where
  cell_same : (inside other outside : X) → (k < 8 → j ≤ 512 → inside ≡ other) → if_cell k j inside outside ≡ if_cell k j other outside
  cell_same inside other outside e = go (ltb k 8) refl (ltb j 513) refl
    where
      go : (b : Bool) → ltb k 8 ≡ b → (c : Bool) → ltb j 513 ≡ c → cond b (cond c inside outside) outside ≡ cond b (cond c other outside) outside
      go true p true q = let h = ltb-true j 513 q in e (ltb-true k 8 p) (omega arith)
      go true p false q = refl
      go false p c q = refl

  cell_both : (both : X) → if_cell k j both both ≡ both
  cell_both both = go (ltb k 8) (ltb j 513)
    where
      go : (b c : Bool) → cond b (cond c both both) both ≡ both
      go true true = refl
      go true false = refl
      go false c = refl

-- what a new table holds
abbrev pub empty : Table
empty = record { tallies = replicate 4104 0; cuts = replicate 4104 0 }

pub fresh_cells : Fresh empty
fresh_cells k j = (
  cell_same k j _ Empty Empty (λ h g. ap cost_of (get_or-replicate 4104 (k * 513 + j) 0 0 (omega arith))) ∙ cell_both k j Empty,
  cell_same k j _ 0 0 (λ h g. ap (min 512) (get_or-replicate 4104 (k * 513 + j) 0 0 (omega arith))) ∙ cell_both k j 0,
)

-- empty cells are right for no readings
pub fresh_right : (weight : ℕ → ℕ → ℕ) (t : Table) (rounds : ℕ) → Fresh t → Right weight t rounds 0
fresh_right weight t rounds fresh =
    record {
      tallied = tallied;
      cuts = λ k j v h g e. let none = (fresh k j).0 in absurd (let z : ◌≡◌ {A = ℕ} 0 1 = cc in omega arith);
    }
  where
    tallied : (k j : ℕ) → k ≤ rounds → j ≤ 0 → Tally weight k j (tally_at t k j)
    tallied zero j h g = zero_tally weight j
    tallied (suc k) j h g = subst (Tally weight (suc k) j) (sym (fresh k j).0) (λ ends d. too_many (suc k) j ends (omega arith) d)

-- a tally of at most seven spans, none above 2^59 - 1, is carried as it is
pub carry_tally : (weight : ℕ → ℕ → ℕ) (n k j : ℕ) (t : Cost) → Light weight n → k ≤ 7 → j ≤ n → Tally weight k j t → carry t ≡ t
carry_tally weight n k j (Number v) light h g l =
    let b = tally_le weight n (2 ^ 59 - 1) light k j v g l in
    ap (λ (b : Bool). cond b Empty (Number v)) (le-ltb (7 * (2 ^ 59 - 1)) v (omega arith))
carry_tally weight n k j Empty light h g l = refl

-- and nothing greater is carried
pub carry_carriable : (t : Cost) → Carriable (carry t)
carry_carriable (Number v) = go (ltb (7 * (2 ^ 59 - 1)) v) refl
  where
    go : (b : Bool) → ltb (7 * (2 ^ 59 - 1)) v ≡ b → Carriable (cond b Empty (Number v))
    go true p = tt
    go false p = ltb-false (7 * (2 ^ 59 - 1)) v p
carry_carriable Empty = tt

-- whatever the table holds, the entries of a round are small enough for its cells
pub entry_small : (weight : ℕ → ℕ → ℕ) (t : Table) (k j a : ℕ) → weight a j ≤ 2 ^ 59 - 1 → Small (round_entry weight (carried_at t k) j a)
entry_small weight t k j a light = go (round_entry weight (carried_at t k) j a) refl
  where
    go : (e : Cost) → round_entry weight (carried_at t k) j a ≡ e → Small e
    go (Number v) e =
        let c = comes weight (carried_at t k) j a v e in
        let m : c.u ≤ 7 * (2 ^ 59 - 1) = subst Carriable c.tally (carry_carriable (tally_at t k a)) in
        omega (arith, c.sum)
    go Empty e = tt
