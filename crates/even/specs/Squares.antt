-- The square of a distance from one number is convex: what the even weighing's law rests on.
use Rattle.std.specs.Prelude.{◌≡◌, ℕ, ◌+◌, ◌-◌, ◌*◌, ◌<◌, ◌≤◌}
use Rattle.std.proofs.Common.{mul-add, add-mul, mul_comm, mul-le-mul, arith, ⊎_elim}
use Rattle.std.proofs.lemmas.Bool.{cases_lt}
use Rattle.weighing.specs.Distance.{apart}
use Rattle.even.specs.Evens.{even_weight}

abbrev squared : ℕ → ℕ → ℕ
squared m g = apart m g * apart m g

square_of_gap : (m g e : ℕ) → g ≡ m + e → e * e + 2 * (m * g) ≡ m * m + g * g
square_of_gap m g e h = rw h (omega (arith, mul-add m m e, mul-add (m + e) m e, add-mul m e m, add-mul m e e, mul_comm e m))

square_of_apart : (m g : ℕ) → squared m g + 2 * (m * g) ≡ m * m + g * g
square_of_apart m g =
    ⊎_elim
    (λ below. let d : apart m g ≡ g - m = omega arith in rw d (square_of_gap m g (g - m) (omega arith)))
    (λ above. let d : apart m g ≡ m - g = omega arith in rw d (omega (arith, square_of_gap g m (m - g) (omega arith), mul_comm m g)))
    (cases_lt m g)

-- lengths p + q and q + r against p + q + r and q
convex : (p q r g : ℕ) → squared (p + q) g + squared (q + r) g ≤ squared (p + q + r) g + squared q g
convex p q r g =
    let lines : (p + q) * g + (q + r) * g ≡ (p + q + r) * g + q * g = omega (arith, add-mul p q g, add-mul q r g, add-mul (p + q) r g) in
    let squares : (p + q) * (p + q) + (q + r) * (q + r) + 2 * (p * r) ≡ (p + q + r) * (p + q + r) + q * q =
    omega (arith, add-mul p q (p + q), mul-add p p q, mul-add q p q, add-mul q r (q + r), mul-add q q r, mul-add r q r, add-mul (p + q) r (p + q + r), mul-add (p + q) (p + q) r, add-mul p q r, mul-add r (p + q) r, mul-add r p q, mul_comm q p, mul_comm r q, mul_comm r p) in
    omega (arith, square_of_apart (p + q) g, square_of_apart (q + r) g, square_of_apart (p + q + r) g, square_of_apart q g, lines, squares)

pub even_quadrangle : (g a b c d : ℕ) → a < b → b < c → c < d → even_weight g a c + even_weight g b d ≤ even_weight g a d + even_weight g b c
even_quadrangle g a b c d h1 h2 h3 =
    let first : c - a ≡ (b - a) + (c - b) = omega arith in
    let second : d - b ≡ (c - b) + (d - c) = omega arith in
    let whole : d - a ≡ (b - a) + (c - b) + (d - c) = omega arith in
    rw (first, second, whole) (convex (b - a) (c - b) (d - c) g)

pub even_bounded : (g a b : ℕ) → a < b → b ≤ 512 → 1 ≤ g → g ≤ 512 → even_weight g a b ≤ 261121
even_bounded g a b h1 h2 h3 h4 = let near : apart (b - a) g ≤ 511 = omega arith in mul-le-mul near near
