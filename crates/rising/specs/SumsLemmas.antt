-- How sums over spans split, agree and are bounded.
use Rattle.std.specs.Prelude.{◌≡◌, ℕ, zero, suc, ◌+◌, ◌-◌, ◌*◌, ◌<◌, ◌≤◌, List, slice_index, slice_index_or}
use Rattle.std.proofs.Common.{ap, add-zero, add-suc, add-mul, zero-mul, suc-mul, add-one, arith}
use Rattle.std.proofs.Math.Nat.{sub-zero}
use Rattle.rising.specs.Sums.{total, over_span, sum_first}

pub total_split : (f : ℕ → ℕ) (a k l : ℕ) → total f a (k + l) ≡ total f a k + total f (a + k) l
total_split f a k zero = rw (add-zero k) (omega arith)
total_split f a k (suc l) =
    let place : f (a + (k + l)) ≡ f (a + k + l) = ap f (omega arith) in
    rw (add-suc k l) (omega (arith, total_split f a k l))

pub total_agrees : (f g : ℕ → ℕ) (a k : ℕ) → ((i : ℕ) → a ≤ i → i < a + k → f i ≡ g i) → total f a k ≡ total g a k
total_agrees f g a zero same = omega arith
total_agrees f g a (suc k) same = omega (arith, total_agrees f g a k (λ i h l. same i h (omega arith)), same (a + k) (omega arith) (omega arith))

pub total_bounded : (f : ℕ → ℕ) (most a k : ℕ) → ((i : ℕ) → a ≤ i → i < a + k → f i ≤ most) → total f a k ≤ k * most
total_bounded f most a zero small = omega arith
total_bounded f most a (suc k) small =
    omega (arith, total_bounded f most a k (λ i h l. small i h (omega arith)), small (a + k) (omega arith) (omega arith), suc-mul k most)

-- the distances below y, with what lies below them, fill k times y
pub total_below : (f : ℕ → ℕ) (y a k : ℕ) → ((i : ℕ) → a ≤ i → i < a + k → f i ≤ y) → total (λ i. y - f i) a k + total f a k ≡ k * y
total_below f y a zero low = omega (arith, zero-mul y)
total_below f y a (suc k) low =
    omega (arith, total_below f y a k (λ i h l. low i h (omega arith)), low (a + k) (omega arith) (omega arith), suc-mul k y)

-- the distances above y, on top of k times y, reach f
pub total_above : (f : ℕ → ℕ) (y a k : ℕ) → ((i : ℕ) → a ≤ i → i < a + k → y ≤ f i) → total (λ i. f i - y) a k + k * y ≡ total f a k
total_above f y a zero high = omega (arith, zero-mul y)
total_above f y a (suc k) high =
    omega (arith, total_above f y a k (λ i h l. high i h (omega arith)), high (a + k) (omega arith) (omega arith), suc-mul k y)

pub sum_next : (x : List ℕ) (k : ℕ) → sum_first x (k + 1) ≡ sum_first x k + slice_index x k
sum_next x k = let place : slice_index_or x (0 + k) 0 ≡ slice_index_or x k 0 = ap (λ i. slice_index x i) (omega arith) in rw (add-one k) (omega arith)

pub span_split : (f : ℕ → ℕ) (a m b : ℕ) → a ≤ m → m ≤ b → over_span f a b ≡ over_span f a m + over_span f m b
span_split f a m b h l =
    let whole : total f a (b - a) ≡ total f a ((m - a) + (b - m)) = ap (total f a) (omega arith) in
    let later : total f (a + (m - a)) (b - m) ≡ total f m (b - m) = ap (λ k. total f k (b - m)) (omega arith) in
    omega (arith, total_split f a (m - a) (b - m))

pub sum_of_span : (x : List ℕ) (a b : ℕ) → a ≤ b → sum_first x b ≡ sum_first x a + over_span (λ i. slice_index x i) a b
sum_of_span x a b h = rw (sub-zero a, sub-zero b) at (span_split (λ i. slice_index x i) 0 a b (omega arith) h)

pub one_more : (k l v : ℕ) → l ≡ k + 1 → l * v ≡ k * v + v
one_more k l v h = rw (h, add-mul k 1 v) (omega arith)
