-- How reads add up.
use Rattle.std.proofs.Common.{ℕ, ◌+◌, ◌-◌, ◌^◌, ◌≤◌, refl, ◌∙◌, arith}
use Rattle.search.specs.declared.sheet.Sheet.{Ghosts}
use Rattle.search.specs.Steps.{Read, ReadWithin, HasPlace}

module _ {S E : Type 0} (m : Ghosts S E) where
  pub read_none : ((x : S) → m.passes x x) → ((x : S) → m.ledger x ≤ 2 ^ 63 - 1) → (s : S) → Read m 0 s s
  read_none stays capped s =
      let c = capped s in
      record { rows_same = refl; columns_same = refl; at_same = λ i j a b. refl; ledger_risen = omega arith; passed = stays s }

  pub place_there : {n row column : ℕ} {s t : S} → Read m n s t → HasPlace m s row column → HasPlace m t row column
  place_there r p = let a = p.row_in in let b = p.column_in in let x = r.rows_same in let y = r.columns_same in record { row_in = omega arith; column_in = omega arith }

  module _ (onward : (x y z : S) → m.passes x y → m.passes y z → m.passes x z) where
    pub read_more : {a b : ℕ} {s t u : S} → Read m a s t → Read m b t u → Read m (a + b) s u
    read_more {s = s} {t = t} {u = u} p q =
        let rows = p.rows_same in
        let columns = p.columns_same in
        record {
          rows_same = q.rows_same ∙ p.rows_same;
          columns_same = q.columns_same ∙ p.columns_same;
          at_same = λ i j x y. q.at_same i j (omega arith) (omega arith) ∙ p.at_same i j x y;
          ledger_risen = let x = p.ledger_risen in let y = q.ledger_risen in omega arith;
          passed = onward s t u p.passed q.passed;
        }

    pub within_more : {a b c : ℕ} {s t u : S} → a + b ≤ c → ReadWithin m a s t → ReadWithin m b t u → ReadWithin m c s u
    within_more fits p q = let x = p.1 in let y = q.1 in (p.0 + q.0, omega arith, read_more p.2 q.2)
