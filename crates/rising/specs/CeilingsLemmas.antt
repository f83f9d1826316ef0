-- The ceiling's weights by running sums, and why they are lawful.
use Rattle.std.specs.Prelude.{◌≡◌, ℕ, ◌+◌, ◌-◌, ◌*◌, ◌<◌, ◌≤◌, List, length, slice_index, slice_index_or}
use Rattle.std.proofs.Common.{add-mul, mul-add, arith}
use Rattle.rising.specs.Rows.{Small, Rising}
use Rattle.rising.specs.Sums.{sum_first}
use Rattle.rising.specs.Ceilings.{ceiling_level, ceiling_weight}
use Rattle.rising.specs.SumsLemmas.{total_agrees, total_bounded, total_below, sum_of_span, one_more}
use Rattle.rising.specs.Spans.{Local}
use Rattle.rising.specs.Quadrangle.{Step, quadrangle_from_steps}

pub ceiling_level_local : Local ceiling_level
ceiling_level_local x y a b h same = same (b - 1) (omega arith)

pub ceiling_weight_local : Local ceiling_weight
ceiling_weight_local x y a b h same =
    let level = ceiling_level_local x y a b h same in
    total_agrees (λ i. slice_index y (b - 1) - slice_index y i) (λ i. slice_index x (b - 1) - slice_index x i) a (b - a) (λ i h l. let at = same i (omega arith) in cc)

product_of_sums : (q e u f : ℕ) → (q + e) * u + q * (u + f) ≤ (q + e) * (u + f) + q * u
product_of_sums q e u f = omega (arith, add-mul q e u, mul-add q u f, mul-add (q + e) u f, add-mul q e f)

-- the longer with the higher makes more than the longer with the lower
rearranged : (p q u v : ℕ) → q ≤ p → u ≤ v → p * u + q * v ≤ p * v + q * u
rearranged p q u v h l =
    let longer : q + (p - q) ≡ p = omega arith in
    let higher : u + (v - u) ≡ v = omega arith in
    rw (longer, higher) at (product_of_sums q (p - q) u (v - u))

module _ (x : List ℕ) (rising : Rising x) where
  -- the span's readings and what they lack fill its length times its level
  pub ceiling_by_sums : (a b : ℕ) → a < b → b ≤ length x → ceiling_weight x a b + sum_first x b ≡ (b - a) * slice_index x (b - 1) + sum_first x a
  ceiling_by_sums a b h l =
      let filled = total_below (λ i. slice_index x i) (slice_index x (b - 1)) a (b - a) (λ i n m. rising i (b - 1) (omega arith) (omega arith)) in
      omega (arith, sum_of_span x a b (omega arith))

  ceiling_step : Step (ceiling_weight x) (length x)
  ceiling_step a b e h1 h2 h3 =
      let u = slice_index_or x (e - 1) 0 in
      let v = slice_index_or x (e + 1 - 1) 0 in
      let one-more-a : (e + 1 - a) * v ≡ (e - a) * v + v = one_more (e - a) (e + 1 - a) v (omega arith) in
      let one-more-b : (e + 1 - b) * v ≡ (e - b) * v + v = one_more (e - b) (e + 1 - b) v (omega arith) in
      let crossed = rearranged (e - a) (e - b) u v (omega arith) (rising (e - 1) (e + 1 - 1) (omega arith) (omega arith)) in
      let a-old = ceiling_by_sums a e (omega arith) (omega arith) in
      let a-new = ceiling_by_sums a (e + 1) (omega arith) (omega arith) in
      let b-old = ceiling_by_sums b e (omega arith) (omega arith) in
      let b-new = ceiling_by_sums b (e + 1) (omega arith) (omega arith) in
      omega arith

  pub ceiling_quadrangle : (a b c d : ℕ) → a < b → b < c → c < d → d ≤ length x → ceiling_weight x a c + ceiling_weight x b d ≤ ceiling_weight x a d + ceiling_weight x b c
  ceiling_quadrangle = quadrangle_from_steps (ceiling_weight x) (length x) ceiling_step

pub ceiling_bounded : (x : List ℕ) → Small x → length x ≤ 512 → (a b : ℕ) → a < b → b ≤ length x → ceiling_weight x a b ≤ 33553920
ceiling_bounded x small few a b h l =
    let level = small (b - 1) (omega arith) in
    let each = total_bounded (λ i. slice_index x (b - 1) - slice_index x i) 65535 a (b - a) (λ i n m. omega arith) in
    omega arith
