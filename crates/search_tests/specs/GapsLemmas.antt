-- Squared gaps make a totally monotone sheet, since squaring keeps the order.
use Rattle.std.proofs.Common.{⊎_elim, arith, mul-le-mul_left, mul-le-mul_right, le-div_iff_mul-le, div-mul-le_self}
use Rattle.std.specs.Prelude.{ℕ, ◌*◌, ◌/◌, ◌<◌, ◌≤◌}
use Rattle.std.proofs.Math.Nat.{mul-lt-mul_of_pos_left}
use Rattle.std.proofs.lemmas.Bool.{cases_lt}
use Rattle.search_tests.specs.Gaps.{gap}

pub square_keeps_less : (x y : ℕ) → x < y → x * x < y * y
square_keeps_less x y h =
    let le : x ≤ y = omega arith in
    let pos : 0 < y = omega arith in
    let a = mul-le-mul_right {m = x} {n = y} x le in
    let b = mul-lt-mul_of_pos_left {m = x} {n = y} {k = y} h pos in
    omega arith

pub less_of_squares : (x y : ℕ) → x * x < y * y → x < y
less_of_squares x y h = ⊎_elim (λ l. l) (λ ge. let a = mul-le-mul_right {m = y} {n = x} y ge in let b = mul-le-mul_left {m = y} {n = x} x ge in absurd (omega arith)) (cases_lt x y)

-- a later row keeps a column that lies nearer than one on its left nearer
pub nearer_stays_nearer : (r s a b : ℕ) → r ≤ s → a ≤ b → gap r b * gap r b < gap r a * gap r a → gap s b * gap s b < gap s a * gap s a
nearer_stays_nearer r s a b p q h =
    let l : gap r b < gap r a = less_of_squares (gap r b) (gap r a) h in
    square_keeps_less (gap s b) (gap s a) (omega (arith, l))

-- what comes later lies in no earlier block
pub later_block : (x y size : ℕ) → x < y → 0 < size → x / size ≤ y / size
later_block x y size h pos = (le-div_iff_mul-le {k = size} {x = x / size} {y = y} pos).1 (omega (arith, div-mul-le_self x size))
