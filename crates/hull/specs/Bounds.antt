-- Near corners keep turns and squared distances small: every number on the way fits 64 bits.
use Rattle.std.specs.Prelude.{◌≡◌, ℕ, ◌*◌, ◌≤◌, ℤ, pos, negsuc, ◌+ℤ◌, ◌-ℤ◌, ◌*ℤ◌, neg_ℤ, FitsSigned, unsigned_abs}
use Rattle.std.proofs.Common.{arith, mul-le-mul}
use Rattle.std.proofs.lemmas.Int.{ints}
use Rattle.std.specs.Int.{w32, w64}
use Rattle.hull.specs.Plane.{Coordinate}

pub coordinate_fits32 : (z : ℤ) → Coordinate z → FitsSigned w32 z
coordinate_fits32 z h = omega (arith, ints)

pub coordinate_fits64 : (z : ℤ) → Coordinate z → FitsSigned w64 z
coordinate_fits64 z h = omega (arith, ints)

difference_small : (a b : ℤ) → Coordinate a → Coordinate b → unsigned_abs (a -ℤ b) ≤ 60000
difference_small a b h g = omega (arith, ints)

pub difference_fits : (a b : ℤ) → Coordinate a → Coordinate b → FitsSigned w64 (a -ℤ b)
difference_fits a b h g = omega (arith, ints)

abs_neg : (n : ℕ) → unsigned_abs (neg_ℤ (pos n)) ≡ n
abs_neg n = omega (arith, ints)

pub abs_mul : (a b : ℤ) (m n : ℕ) → unsigned_abs a ≤ m → unsigned_abs b ≤ n → unsigned_abs (a *ℤ b) ≤ m * n
abs_mul (pos a) (pos b) m n h g = mul-le-mul h g
abs_mul (pos a) (negsuc b) m n h g = rw abs_neg (mul-le-mul h g)
abs_mul (negsuc a) (pos b) m n h g = rw abs_neg (mul-le-mul h g)
abs_mul (negsuc a) (negsuc b) m n h g = mul-le-mul h g

-- the product of two differences of coordinates
pub product_small : (a b c d : ℤ) → Coordinate a → Coordinate b → Coordinate c → Coordinate d → unsigned_abs ((a -ℤ b) *ℤ (c -ℤ d)) ≤ 3600000000
product_small a b c d ha hb hc hd = abs_mul (a -ℤ b) (c -ℤ d) 60000 60000 (difference_small a b ha hb) (difference_small c d hc hd)

pub small_fits : (a : ℤ) → unsigned_abs a ≤ 3600000000 → FitsSigned w64 a
small_fits a h = omega (arith, ints)

pub small_sum_fits : (a b : ℤ) → unsigned_abs a ≤ 3600000000 → unsigned_abs b ≤ 3600000000 → FitsSigned w64 (a +ℤ b)
small_sum_fits a b h g = omega (arith, ints)

pub small_difference_fits : (a b : ℤ) → unsigned_abs a ≤ 3600000000 → unsigned_abs b ≤ 3600000000 → FitsSigned w64 (a -ℤ b)
small_difference_fits a b h g = omega (arith, ints)

pub product_fits : (a b c d : ℤ) → Coordinate a → Coordinate b → Coordinate c → Coordinate d → FitsSigned w64 ((a -ℤ b) *ℤ (c -ℤ d))
product_fits a b c d ha hb hc hd = small_fits ((a -ℤ b) *ℤ (c -ℤ d)) (product_small a b c d ha hb hc hd)

pub sum_fits : (a b c d e f g h : ℤ) → Coordinate a → Coordinate b → Coordinate c → Coordinate d → Coordinate e → Coordinate f → Coordinate g → Coordinate h → FitsSigned w64 ((a -ℤ b) *ℤ (c -ℤ d) +ℤ (e -ℤ f) *ℤ (g -ℤ h))
sum_fits a b c d e f g h ha hb hc hd he hf hg hh =
    small_sum_fits ((a -ℤ b) *ℤ (c -ℤ d)) ((e -ℤ f) *ℤ (g -ℤ h)) (product_small a b c d ha hb hc hd) (product_small e f g h he hf hg hh)

pub twist_fits : (a b c d e f g h : ℤ) → Coordinate a → Coordinate b → Coordinate c → Coordinate d → Coordinate e → Coordinate f → Coordinate g → Coordinate h → FitsSigned w64 ((a -ℤ b) *ℤ (c -ℤ d) -ℤ (e -ℤ f) *ℤ (g -ℤ h))
twist_fits a b c d e f g h ha hb hc hd he hf hg hh =
    small_difference_fits ((a -ℤ b) *ℤ (c -ℤ d)) ((e -ℤ f) *ℤ (g -ℤ h)) (product_small a b c d ha hb hc hd) (product_small e f g h he hf hg hh)
