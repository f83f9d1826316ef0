-- What a divide reads off a table is the best division where the table is right.
use Rattle.std.proofs.Common.{◌≡◌, ℕ, ◌<◌, ◌≤◌, List, length, Ok, Err, Result, sym, refl, ap, ◌∙◌, subst, inl, inr, arith}
use Rattle.refusal.specs.declared.Refusal.{Refusal}
use Rattle.refusal.specs.declared.Refusal.TheVariants.{ListTooShort}
use Rattle.division.specs.declared.cost.Cost.TheVariants.{Number}
use Rattle.division.specs.declared.table.Table.{Table}
use Rattle.division.specs.declared.table.Told.{Told}
use Rattle.division.specs.Costs.{number_or_zero}
use Rattle.division.specs.Divisions.{Least, Tally, Best, total}
use Rattle.division.specs.Divide.{Fewest, Room, BestFits, Spans, ReadOff, Answered, Refused, TableDivided, Divided}
use Rattle.division.specs.Tables.{tally_at, cut_at, Right}
use Rattle.division.specs.Trails.{trail}
use Rattle.division.proofs.Places.{trail_length}
use Rattle.division.proofs.Tallies.{numbered, some_division}
use Rattle.division.proofs.Trails.{trails_stand}

module _ (weight : ℕ → ℕ → ℕ) (t : Table) (rounds n k : ℕ) (right : Right weight t rounds n) (few : k ≤ rounds) where
  trail_best : (s : ℕ) → 0 < n → Fewest t n k s → Best weight n k (trail (cut_at t) s n) × (tally_at t s n ≡ Number (total weight 0 (trail (cut_at t) s n)))
  trail_best s held fewest = trails_stand weight (tally_at t) (cut_at t) rounds n k s right held few fewest

  read_off_best : (old : List ℕ) (told : Told) (new : List ℕ) → ReadOff t n k old told new → Answered weight n k told new
  read_off_best old told new off =
      let b = trail_best told.spans off.held off.fewest in
      record {
        best = subst (Best weight n k) (sym off.ends) b.0;
        many = ap length off.ends ∙ trail_length (cut_at t) told.spans n;
        weighs = ap (total weight 0) off.ends ∙ sym (off.weighs ∙ ap number_or_zero b.1);
      }

  room_for_best : (places : ℕ) → 0 < n → BestFits weight n k places → Room t n k places
  room_for_best places held fits s fewest = let h = fits (trail (cut_at t) s n) (trail_best s held fewest).0 in omega (arith, trail_length (cut_at t) s n)

  refused_best : (places : ℕ) (why : Refusal) → Refused n k (Room t n k places) why → Refused n k (BestFits weight n k places) why
  refused_best places why (inl r) = inl r
  refused_best places why (inr (held, inl r)) = inr (held, inl r)
  refused_best places why (inr (held, inr (readings, inl r))) = inr (held, inr (readings, inl r))
  refused_best places why (inr (held, inr (readings, inr (spans, inl r)))) =
      inr (held, inr (readings, inr (spans, inl (λ fits. r.0 (room_for_best places held fits), r.1))))
  refused_best places why (inr (held, inr (readings, inr (spans, inr r)))) = absurd r.1

  pub divided_best : (old : List ℕ) (r : Result Told Refusal) (new : List ℕ) → TableDivided t n k old r new → Divided weight n k old r new
  divided_best old (Ok told) new off = read_off_best old told new off
  divided_best old (Err why) new off = refused_best (length old) why off.0

pub too_short : (t : Table) (n k s : ℕ) (list : List ℕ) → 0 < n → n ≤ 512 → Spans k → Fewest t n k s → length list < s → TableDivided t n k list (Err ListTooShort) list
too_short t n k s list held readings spans fewest short =
    (inr (held, inr (readings, inr (spans, inl (λ room. let h = room s fewest in omega arith, refl)))), refl)

-- the tally of no more spans than readings is a number, the least weight
pub exact_least : (weight : ℕ → ℕ → ℕ) (t : Table) (rounds n k : ℕ) → Right weight t rounds n → 0 < k → k ≤ rounds → k ≤ n → Least weight k n (number_or_zero (tally_at t k n))
exact_least weight t rounds n k right some few room =
    let d = some_division k n some room in
    let u = numbered weight k n (tally_at t k n) (right.tallied k n few (omega arith)) d.0 d.1 in
    let l : Least weight k n u.0 = subst (Tally weight k n) u.1 (right.tallied k n few (omega arith)) in
    rw u.1 l
