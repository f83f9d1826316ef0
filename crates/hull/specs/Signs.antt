-- The signs of sums and products of whole numbers.
use Rattle.std.specs.Prelude.{◌≡◌, zero, suc, ℤ, pos, negsuc, ◌+ℤ◌, ◌-ℤ◌, ◌*ℤ◌, ◌≤ℤ◌, ◌<ℤ◌}
use Rattle.std.proofs.Common.{sym, ◌∙◌, subst, arith}
use Rattle.std.proofs.lemmas.Int.{ints}
-- the library itself reads whole numbers by these; it has no other name for them
use borrow.Author.Differences.{below_in, at_most_in}
use Rattle.std.proofs.Math.IntN.{*ℤ_comm, zero-*ℤ}

pub mul_pos : (a b : ℤ) → pos 0 <ℤ a → pos 0 <ℤ b → pos 0 <ℤ (a *ℤ b)
mul_pos (pos zero) b h g = absurd h.lt
mul_pos (pos (suc m)) (pos zero) h g = absurd g.lt
mul_pos (pos (suc m)) (pos (suc n)) h g = below_in _ _ (omega arith)
mul_pos (pos (suc m)) (negsuc n) h g = absurd g.lt
mul_pos (negsuc m) b h g = absurd h.lt

mul_nonneg : (a b : ℤ) → pos 0 <ℤ a → pos 0 ≤ℤ b → pos 0 ≤ℤ (a *ℤ b)
mul_nonneg (pos m) (pos n) h g = at_most_in _ _ (omega arith)
mul_nonneg (pos m) (negsuc n) h g = absurd g.le
mul_nonneg (negsuc m) b h g = absurd h.lt

pub square_nonneg : (a : ℤ) → pos 0 ≤ℤ (a *ℤ a)
square_nonneg (pos m) = at_most_in _ _ (omega arith)
square_nonneg (negsuc m) = at_most_in _ _ (omega arith)

pub add_pos : (a b : ℤ) → pos 0 <ℤ a → pos 0 <ℤ b → pos 0 <ℤ (a +ℤ b)
add_pos a b h g = omega (arith, ints)

pub add_nonneg : (a b : ℤ) → pos 0 ≤ℤ a → pos 0 ≤ℤ b → pos 0 ≤ℤ (a +ℤ b)
add_nonneg a b h g = omega (arith, ints)

pub pos_add_nonneg : (a b : ℤ) → pos 0 <ℤ a → pos 0 ≤ℤ b → pos 0 <ℤ (a +ℤ b)
pos_add_nonneg a b h g = omega (arith, ints)

pub pos_nonneg : (a : ℤ) → pos 0 <ℤ a → pos 0 ≤ℤ a
pos_nonneg a h = omega (arith, ints)

pub below_difference : (a b : ℤ) → a <ℤ b → pos 0 <ℤ (b -ℤ a)
below_difference a b h = omega (arith, ints)

pub difference_below : (a b : ℤ) → pos 0 <ℤ (b -ℤ a) → a <ℤ b
difference_below a b h = omega (arith, ints)

pos_factor : (a b : ℤ) → pos 0 <ℤ (a *ℤ b) → pos 0 <ℤ b → pos 0 <ℤ a
pos_factor (pos zero) (pos n) h g = omega (arith, ints)
pos_factor (pos (suc m)) b h g = below_in _ _ (omega arith)
pos_factor (pos zero) (negsuc n) h g = absurd g.lt
pos_factor (negsuc m) (pos zero) h g = absurd g.lt
pos_factor (negsuc m) (pos (suc n)) h g = omega (arith, ints)
pos_factor (negsuc m) (negsuc n) h g = absurd g.lt

pub nonneg_factor : (a b : ℤ) → pos 0 ≤ℤ a → pos 0 <ℤ (a *ℤ b) → pos 0 <ℤ a
nonneg_factor (pos zero) b h g = subst (λ z. pos 0 <ℤ z) (zero-*ℤ b) g
nonneg_factor (pos (suc m)) b h g = below_in _ _ (omega arith)
nonneg_factor (negsuc m) b h g = absurd h.le

-- what solves a · b = c · d + e · f for b is positive where the others are, f at least 0
pub positive_solution : (a b c d e f : ℤ) → a *ℤ b ≡ c *ℤ d +ℤ e *ℤ f → pos 0 <ℤ a → pos 0 <ℤ c → pos 0 <ℤ d → pos 0 <ℤ e → pos 0 ≤ℤ f → pos 0 <ℤ b
positive_solution a b c d e f same ha hc hd he hf =
    pos_factor b a
    (subst (λ z. pos 0 <ℤ z) (sym (*ℤ_comm b a ∙ same)) (pos_add_nonneg (c *ℤ d) (e *ℤ f) (mul_pos c d hc hd) (mul_nonneg e f he hf)))
    ha
