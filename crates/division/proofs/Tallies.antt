-- First facts on tallies.
use Rattle.std.proofs.Common.{◌≡◌, ℕ, zero, suc, ◌+◌, ◌*◌, ◌<◌, ◌≤◌, List, [], ◌∷◌, length, refl, ap, zero-le, suc-mul, arith}
use Rattle.division.specs.declared.cost.Cost.{Cost}
use Rattle.division.specs.declared.cost.Cost.TheVariants.{Number, Empty}
use Rattle.division.specs.Divisions.{Divides, Division, Least, Tally, total}
use Rattle.division.specs.Rounds.{no_spans}
use Rattle.division.proofs.Snoc.{divides_le}

-- where there is a division the tally is a number, and no more than that weighs
pub numbered : (weight : ℕ → ℕ → ℕ) (k j : ℕ) (t : Cost) → Tally weight k j t → (ends : List ℕ) → Division k j ends → (u : ℕ) × (t ≡ Number u) × (u ≤ total weight 0 ends)
numbered weight k j (Number u) l ends d = (u, refl, l.least ends d)
numbered weight k j Empty none ends d = absurd (none ends d)

-- no spans at all divide no readings, and nothing else
pub zero_tally : (weight : ℕ → ℕ → ℕ) (a : ℕ) → Tally weight 0 a (no_spans a)
zero_tally weight zero =
    record { reached = ([], record { divides = refl; many = refl }, refl); least = λ ends d. zero-le }
zero_tally weight (suc a) = none_of
  where
    none_of : (ends : List ℕ) → Division 0 (suc a) ends → ⊥
    none_of [] d = omega (arith, d.divides)
    none_of (x ∷ xs) d = omega (arith, d.many)

-- no more spans than readings
pub spans_le : (from : ℕ) (ends : List ℕ) (to : ℕ) → Divides from ends to → from + length ends ≤ to
spans_le from [] to d = omega arith
spans_le from (e ∷ ends) to d = let h = spans_le e ends to d.1 in omega (arith, d.0)

pub too_many : (k j : ℕ) (ends : List ℕ) → j < k → Division k j ends → ⊥
too_many k j ends h d = omega (arith, spans_le 0 ends j d.divides, d.many)

-- one reading to a span but the last
singles : (from k to : ℕ) → from + k < to → (ends : List ℕ) × Divides from ends to × (length ends ≡ suc k)
singles from zero to h = (to ∷ [], (omega arith, refl), refl)
singles from (suc k) to h =
    let s = singles (from + 1) k to (omega arith) in
    ((from + 1) ∷ s.0, (omega arith, s.1), ap suc s.2)

pub some_division : (k j : ℕ) → 0 < k → k ≤ j → (ends : List ℕ) × Division k j ends
some_division zero j some h = absurd (omega arith)
some_division (suc k) j some h = let s = singles 0 k j (omega arith) in (s.0, record { divides = s.1; many = s.2 })

-- a tally is at most the top for each span
module _ (weight : ℕ → ℕ → ℕ) (n top : ℕ) (bound : (a b : ℕ) → a < b → b ≤ n → weight a b ≤ top) where
  total_le : (from : ℕ) (ends : List ℕ) (to : ℕ) → Divides from ends to → to ≤ n → total weight from ends ≤ length ends * top
  total_le from [] to d h = zero-le
  total_le from (e ∷ ends) to d h =
      let l = divides_le e ends to d.1 in
      rw (suc-mul (length ends) top) (omega (arith, bound from e d.0 (omega arith), total_le e ends to d.1 h))

  pub tally_le : (k j v : ℕ) → j ≤ n → Least weight k j v → v ≤ k * top
  tally_le k j v h l =
      let r = l.reached in
      let t = total_le 0 r.0 j r.1.divides h in
      rw (r.2, r.1.many) at t
