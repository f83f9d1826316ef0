-- A level of a lawful sheet is lawful, and reading the sheet leaves it as it is.
use Rattle.std.proofs.Common.{◌≡◌, ℕ, ◌+◌, ◌/◌, ◌<◌, Bool, true, false, sym, arith, add-mul, one-mul, div-mul-le_self}
use Rattle.search.specs.declared.sheet.Sheet.{Ghosts}
use Rattle.search.specs.declared.strip.Strip.{Strip}
use Rattle.search.specs.Search.{Fits}
use Rattle.search.specs.Grid.{Column}
use Rattle.search.specs.Levels.{every, row_of}
use Rattle.search.specs.Steps.{HasPlace, Read}
use Rattle.search.proofs.Grid.{Lawful, Agree}
use Rattle.search.proofs.Rows.{times_le, times_pos, row_in}

pub fits_there : {S E : Type 0} (m : Ghosts S E) {n : ℕ} {s t : S} {strip : Strip} → Read m n s t → Fits m s strip → Fits m t strip
fits_there m r f =
    let a = r.rows_same in
    let b = r.columns_same in
    let rows = f.rows_in in
    let columns = f.columns_in in
    record { some_row = f.some_row; some_column = f.some_column; rows_in = omega arith; columns_in = omega arith }

module _ {S E : Type 0} (m : Ghosts S E) {s : S} {strip : Strip} {stride : ℕ} (step : 0 < stride) (fits : Fits m s strip) where
  -- a row of the level and a column that it looks at are a place of the sheet
  pub level_place : (i c : ℕ) → i < strip.rows / stride → Column (every m s strip stride) c → HasPlace m s (row_of strip stride i) c
  level_place i c l col =
      let a = times_le (i + 1) (strip.rows / stride) stride (omega arith) in
      let t = div-mul-le_self strip.rows stride in
      let b = times_pos i stride step in
      let f = fits.rows_in in
      let h = fits.columns_in in
      let x = col.high in
      record { row_in = omega arith; column_in = omega arith }

  -- the level of a sheet and of what reads make of it agree, both ways
  pub level_agrees : {n : ℕ} {t : S} → Read m n s t → Agree (every m s strip stride) (every m s strip stride).entry (every m t strip stride).entry
  level_agrees r i c l col = let p = level_place i c l col in sym (r.at_same (row_of strip stride i) c p.row_in p.column_in)

  pub agrees_back : {n : ℕ} {t : S} → Read m n s t → Agree (every m s strip stride) (every m t strip stride).entry (every m s strip stride).entry
  agrees_back r i c l col = sym (level_agrees r i c l col)

  -- what two columns say of each other after some reads, they would have said before
  pub said_before : {n : ℕ} {t : S} → Read m n s t → (i a b row : ℕ) → i < strip.rows / stride → Column (every m s strip stride) a → Column (every m s strip stride) b → row ≡ row_of strip stride i → (said : Bool) → said ≡ m.before (m.at t row b) (m.at t row a) → m.before (m.at s (row_of strip stride i) b) (m.at s (row_of strip stride i) a) ≡ said
  said_before r i a b row l left right e said h = rw (level_agrees r i a l left, level_agrees r i b l right, ← e) (sym h)

  -- from the laws of the trait
  pub level_lawful :
      ((x : E) → m.before x x ≡ false)
      → ((x y z : E) → m.before x y ≡ true → m.before y z ≡ true → m.before x z ≡ true)
      → ((x y z : E) → m.before x y ≡ false → m.before y z ≡ false → m.before x z ≡ false)
      → ((s : S) (i j a b : ℕ) → i < j → j < m.rows s → a < b → b < m.columns s → m.before (m.at s i b) (m.at s i a) ≡ true → m.before (m.at s j b) (m.at s j a) ≡ true)
      → Lawful (every m s strip stride)
  level_lawful irreflexive transitive weak monotone = record {
    order = record { irreflexive = irreflexive; transitive = transitive; weak = weak };
    monotone = λ i j a b ij jn col ab t.
        let p = level_place j b jn col in
        monotone s (row_of strip stride i) (row_of strip stride j) a b (rises i j ij) p.row_in ab p.column_in t;
  }
    where
      rises : (i j : ℕ) → i < j → row_of strip stride i < row_of strip stride j
      rises i j l =
          let a = times_le (i + 1 + 1) (j + 1) stride (omega arith) in
          let b = times_pos i stride step in
          let c = row_in i (i + 1 + 1) stride step (omega arith) in
          let d = add-mul (i + 1) 1 stride in
          let e = one-mul stride in
          omega arith
