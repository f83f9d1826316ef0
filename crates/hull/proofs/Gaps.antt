-- Gaps of 32-bit coordinates fit 64 bits, and their products, and sums and differences of two such products fit 128 bits.
use Rattle.std.proofs.Common.{ℕ, List, length, ◌<◌, ◌≤◌, ◌^◌, ℤ, ◌+ℤ◌, ◌-ℤ◌, ◌*ℤ◌, FitsSigned, unsigned_abs, arith}
use Rattle.std.proofs.lemmas.Int.{ints, fits_signed_mul}
use Rattle.std.specs.Int.{w64, w128}
use Rattle.hull.specs.Bounds as bounds
use Rattle.hull.specs.declared.corner.Corner.{Corner}
use Rattle.hull.specs.Plane.{distance, corner_at}
use Rattle.hull.specs.Convex.{AllNear}

-- the library's `fits_signed_from_abs`, from the bound that is known of a gap
pub gap_fits : (a : ℤ) → unsigned_abs a < 2 ^ 32 → FitsSigned w64 a
gap_fits a h = omega (arith, ints)

product_wide : (a b : ℤ) → unsigned_abs a < 2 ^ 32 → unsigned_abs b < 2 ^ 32 → unsigned_abs (a *ℤ b) ≤ 18446744065119617025
product_wide a b h g = bounds.abs_mul a b 4294967295 4294967295 (omega arith) (omega arith)

wide_sum_fits : (a b : ℤ) → unsigned_abs a ≤ 18446744065119617025 → unsigned_abs b ≤ 18446744065119617025 → FitsSigned w128 (a +ℤ b)
wide_sum_fits a b h g = omega (arith, ints)

wide_difference_fits : (a b : ℤ) → unsigned_abs a ≤ 18446744065119617025 → unsigned_abs b ≤ 18446744065119617025 → FitsSigned w128 (a -ℤ b)
wide_difference_fits a b h g = omega (arith, ints)

-- of any two numbers of 64 bits, and so of two gaps
pub wide_product_fits : (a b : ℤ) → FitsSigned w64 a → FitsSigned w64 b → FitsSigned w128 (a *ℤ b)
wide_product_fits a b h g = fits_signed_mul w128 a b 9223372036854775808 9223372036854775808 (omega (arith, ints)) (omega (arith, ints)) (omega arith)

pub product_fits : (a b : ℤ) → unsigned_abs a < 2 ^ 32 → unsigned_abs b < 2 ^ 32 → FitsSigned w128 (a *ℤ b)
product_fits a b h g = wide_product_fits a b (gap_fits a h) (gap_fits b g)

pub sum_fits : (a b c d : ℤ) → unsigned_abs a < 2 ^ 32 → unsigned_abs b < 2 ^ 32 → unsigned_abs c < 2 ^ 32 → unsigned_abs d < 2 ^ 32 → FitsSigned w128 (a *ℤ b +ℤ c *ℤ d)
sum_fits a b c d ha hb hc hd = wide_sum_fits (a *ℤ b) (c *ℤ d) (product_wide a b ha hb) (product_wide c d hc hd)

pub difference_fits : (a b c d : ℤ) → unsigned_abs a < 2 ^ 32 → unsigned_abs b < 2 ^ 32 → unsigned_abs c < 2 ^ 32 → unsigned_abs d < 2 ^ 32 → FitsSigned w128 (a *ℤ b -ℤ c *ℤ d)
difference_fits a b c d ha hb hc hd = wide_difference_fits (a *ℤ b) (c *ℤ d) (product_wide a b ha hb) (product_wide c d hc hd)

pub ruleset gaps_fit = (gap_fits, product_fits, sum_fits, difference_fits)

-- the squared distance of two of a hull's corners fits 64 bits
pub apart_fits : (cs : List Corner) → AllNear cs → (i j : ℕ) → i < length cs → j < length cs → FitsSigned w64 (distance (corner_at cs i) (corner_at cs j))
apart_fits cs near i j hi hj =
    let p = corner_at cs i in
    let q = corner_at cs j in bounds.sum_fits p.x q.x p.x q.x p.y q.y p.y q.y (near i hi).0 (near j hj).0 (near i hi).0 (near j hj).0 (near i hi).1 (near j hj).1 (near i hi).1 (near j hj).1
