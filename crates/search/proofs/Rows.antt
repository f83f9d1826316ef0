-- The places of a level's rows: row i of a level of stride t stands at place (i + 1) * t - 1 of the strip.
use Rattle.std.proofs.Common.{◌≡◌, ℕ, ◌+◌, ◌-◌, ◌*◌, ◌<◌, ◌≤◌, List, get_or, set, ap, ◌∙◌, ⊎_elim, mul-le-mul_right, mul_assoc, mul_comm, add-mul, mul-lt-mul_of_pos_right, one-mul, arith, get_or-set_other}
use Rattle.std.proofs.lemmas.Bool.{cases_order}

pub times_pos : (i stride : ℕ) → 0 < stride → 0 < (i + 1) * stride
times_pos i stride pos = let a = add-mul i 1 stride in let b = one-mul stride in omega arith

pub times_le : (i n stride : ℕ) → i ≤ n → i * stride ≤ n * stride
times_le i n stride le = mul-le-mul_right {m = i} {n = n} stride le

-- a row of the level is a row of the strip
pub row_in : (i n stride : ℕ) → 0 < stride → i < n → (i + 1) * stride - 1 < n * stride
row_in i n stride pos l =
    let a = times_le (i + 1) n stride (omega arith) in
    let c = times_pos i stride pos in
    omega arith

pub next_row : (i stride : ℕ) → 0 < stride → ((i + 1) * stride - 1) + stride ≡ (i + 1 + 1) * stride - 1
next_row i stride pos =
    let a = add-mul (i + 1) 1 stride in
    let b = one-mul stride in
    let c = times_pos i stride pos in
    omega arith

-- row i of a level is row 2i + 1 of the level with half its stride
pub second_row : (i t : ℕ) → (2 * i + 1 + 1) * t ≡ (i + 1) * (t * 2)
second_row i t =
    let a : 2 * i + 1 + 1 ≡ (i + 1) * 2 = omega arith in
    ap (λ x. x * t) a ∙ mul_assoc (i + 1) 2 t ∙ ap (λ x. (i + 1) * x) (mul_comm 2 t)

row_lt : (i j stride : ℕ) → 0 < stride → i < j → (i + 1) * stride - 1 < (j + 1) * stride - 1
row_lt i j stride pos l =
    let up : i + 1 < j + 1 = omega arith in
    let a = mul-lt-mul_of_pos_right {m = i + 1} {n = j + 1} {k = stride} up pos in
    let b = times_pos i stride pos in
    omega arith

pub set_other_row : (xs : List ℕ) (i j stride v : ℕ) → 0 < stride → (i ≡ j → ⊥) → get_or (set xs ((i + 1) * stride - 1) v) ((j + 1) * stride - 1) 0 ≡ get_or xs ((j + 1) * stride - 1) 0
set_other_row xs i j stride v pos ne =
    get_or-set_other xs ((i + 1) * stride - 1) ((j + 1) * stride - 1) v 0
    (λ e. ⊎_elim ne (⊎_elim (λ (a : i < j). let x = row_lt i j stride pos a in omega arith) (λ (b : j < i). let x = row_lt j i stride pos b in omega arith)) (cases_order i j))
