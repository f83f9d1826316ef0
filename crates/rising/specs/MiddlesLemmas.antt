-- The middle's weights by running sums, and why they are lawful.
use Rattle.std.specs.Prelude.{◌≡◌, ℕ, ◌+◌, ◌-◌, ◌*◌, ◌/◌, ◌<◌, ◌≤◌, ◌⊎◌, List, length, slice_index, slice_index_or}
use Rattle.std.proofs.Common.{ap, inl, inr, ⊎_elim, arith}
use Rattle.std.proofs.lemmas.Bool.{cases_lt}
use Rattle.weighing.specs.Distance.{apart}
use Rattle.rising.specs.Rows.{Small, Rising}
use Rattle.rising.specs.Sums.{over_span, sum_first}
use Rattle.rising.specs.Middles.{middle_level, middle_weight}
use Rattle.rising.specs.SumsLemmas.{total_agrees, total_bounded, total_below, total_above, span_split, sum_next, sum_of_span, one_more}
use Rattle.rising.specs.Spans.{Local}
use Rattle.rising.specs.Quadrangle.{Step, quadrangle_from_steps}

-- the middle of a span lies in it, and rounded down and up it halves the two ends
halves : (a b : ℕ) → (a + b) / 2 + (a + b + 1) / 2 ≡ a + b
halves a b = omega arith

in_span : (a b : ℕ) → a < b → (a ≤ (a + b) / 2) × ((a + b) / 2 < b)
in_span a b h = (omega arith, omega arith)

up_or_same : (n : ℕ) → ((n + 1) / 2 ≡ n / 2) ⊎ ((n + 1) / 2 ≡ n / 2 + 1)
up_or_same n = ⊎_elim (λ up. inr (omega arith)) (λ same. inl (omega arith)) (cases_lt (n / 2) ((n + 1) / 2))

pub middle_level_local : Local middle_level
middle_level_local x y a b h same = same ((a + b) / 2) (in_span a b h).1

pub middle_weight_local : Local middle_weight
middle_weight_local x y a b h same =
    let level = middle_level_local x y a b h same in
    total_agrees (λ i. apart (slice_index y i) (middle_level y a b)) (λ i. apart (slice_index x i) (middle_level x a b)) a (b - a) (λ i l m. let at = same i (omega arith) in cc)

module _ (x : List ℕ) (rising : Rising x) where
  -- the distances from the reading at m: those before it lie below, the others above
  from_reading : (a m b : ℕ) → a ≤ m → m < b → b ≤ length x →
      over_span (λ i. apart (slice_index x i) (slice_index x m)) a b + sum_first x m + sum_first x m + (b - m) * slice_index x m ≡ (m - a) * slice_index x m + sum_first x a + sum_first x b
  from_reading a m b h1 h2 h3 =
      let y = slice_index_or x m 0 in
      let far = λ (i : ℕ). apart (slice_index x i) y in
      let cut = span_split far a m b h1 (omega arith) in
      let below = total_agrees far (λ i. y - slice_index x i) a (m - a) (λ i l n. omega (arith, rising i m (omega arith) (omega arith))) in
      let above = total_agrees far (λ i. slice_index x i - y) m (b - m) (λ i l n. omega (arith, rising m i l (omega arith))) in
      let filled = total_below (λ i. slice_index x i) y a (m - a) (λ i l n. rising i m (omega arith) (omega arith)) in
      let reached = total_above (λ i. slice_index x i) y m (b - m) (λ i l n. rising m i l (omega arith)) in
      omega (arith, sum_of_span x a m h1, sum_of_span x m b (omega arith))

  pub middle_by_sums : (a b : ℕ) → a < b → b ≤ length x →
      middle_weight x a b + (sum_first x ((a + b) / 2) + sum_first x ((a + b + 1) / 2)) ≡ sum_first x a + sum_first x b
  middle_by_sums a b h l =
      let m = (a + b) / 2 in
      let ends = halves a b in
      let inside = in_span a b h in
      let from = from_reading a m b inside.0 inside.1 l in
      ⊎_elim
      (λ same.
      let sides : (b - m) * slice_index x m ≡ (m - a) * slice_index_or x m 0 = ap (λ k. k * slice_index x m) (omega arith) in
      omega (arith, ap (sum_first x) same))
      (λ up. omega (arith, ap (sum_first x) up, sum_next x m, one_more (m - a) (b - m) (slice_index x m) (omega arith)))
      (up_or_same (a + b))

  -- one more reading adds how far it lies from the middle
  middle_next : (a e : ℕ) → a < e → e < length x → middle_weight x a (e + 1) + slice_index x ((a + e) / 2) ≡ middle_weight x a e + slice_index x e
  middle_next a e h l =
      let now = middle_by_sums a e h (omega arith) in
      let next = middle_by_sums a (e + 1) (omega arith) (omega arith) in
      let low : sum_first x ((a + (e + 1)) / 2) ≡ sum_first x ((a + e + 1) / 2) = ap (λ k. sum_first x (k / 2)) (omega arith) in
      let high : sum_first x ((a + (e + 1) + 1) / 2) ≡ sum_first x ((a + e) / 2 + 1) = ap (sum_first x) (omega arith) in
      omega (arith, sum_next x ((a + e) / 2), sum_next x e)

  middle_step : Step (middle_weight x) (length x)
  middle_step a b e h1 h2 h3 =
      let of-a = middle_next a e (omega arith) h3 in
      let of-b = middle_next b e h2 h3 in
      let inside = in_span b e h2 in
      let rises = rising ((a + e) / 2) ((b + e) / 2) (omega arith) (omega arith) in
      omega arith

  pub middle_quadrangle : (a b c d : ℕ) → a < b → b < c → c < d → d ≤ length x → middle_weight x a c + middle_weight x b d ≤ middle_weight x a d + middle_weight x b c
  middle_quadrangle = quadrangle_from_steps (middle_weight x) (length x) middle_step

pub middle_bounded : (x : List ℕ) → Small x → length x ≤ 512 → (a b : ℕ) → a < b → b ≤ length x → middle_weight x a b ≤ 33553920
middle_bounded x small few a b h l =
    let level = small ((a + b) / 2) (omega (arith, (in_span a b h).1)) in
    let each = total_bounded (λ i. apart (slice_index x i) (middle_level x a b)) 65535 a (b - a) (λ i n m. omega (arith, small i (omega arith))) in
    omega arith
