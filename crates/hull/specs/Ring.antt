-- Polynomial identities over the whole numbers, decided by computing: `ring` shows that two terms in n variables have the same
-- meaning where their difference normalises to the polynomial with no coefficient but 0.
use Rattle.std.specs.Prelude.{◌≡◌, ℕ, zero, suc, ◌*◌, Bool, true, false, T, List, [], ◌∷◌, ℤ, pos, negsuc, ◌+ℤ◌, ◌-ℤ◌, ◌*ℤ◌, neg_ℤ, refl}
use Rattle.std.proofs.Common.{sym, ap, ◌∙◌, arith}
use Rattle.std.proofs.lemmas.Int.{ints}
use Rattle.std.proofs.Math.IntN.{+ℤ_idl, +ℤ_idr, zero-*ℤ, *ℤ-zero, *ℤ_comm}
-- the library itself reads whole numbers by these; it has no other name for them
use borrow.Author.Differences.{up, down, same_in, sum_is_lem, product_is, neg_is}

-- ring laws that std lacks
pub mul_add : (a b c : ℤ) → a *ℤ (b +ℤ c) ≡ a *ℤ b +ℤ a *ℤ c
mul_add a b c =
    same_in _ _ (omega (arith, sum_is_lem (a *ℤ b) (a *ℤ c), product_is a b, product_is a c, product_is a (b +ℤ c), ap (λ n. up a * n) (sum_is_lem b c), ap (λ n. down a * n) (sum_is_lem b c)))

pub mul_assoc : (a b c : ℤ) → (a *ℤ b) *ℤ c ≡ a *ℤ (b *ℤ c)
mul_assoc a b c =
    same_in _ _ (omega (arith, product_is (a *ℤ b) c, product_is a (b *ℤ c), ap (λ n. n * up c) (product_is a b).0, ap (λ n. n * down c) (product_is a b).0, ap (λ n. n * up c) (product_is a b).1, ap (λ n. n * down c) (product_is a b).1, ap (λ n. up a * n) (product_is b c).0, ap (λ n. down a * n) (product_is b c).0, ap (λ n. up a * n) (product_is b c).1, ap (λ n. down a * n) (product_is b c).1))

pub neg_mul : (a b : ℤ) → neg_ℤ a *ℤ b ≡ neg_ℤ (a *ℤ b)
neg_mul a b =
    same_in _ _ (omega (arith, product_is (neg_ℤ a) b, neg_is (a *ℤ b), product_is a b, ap (λ n. n * up b) (neg_is a).0, ap (λ n. n * down b) (neg_is a).0, ap (λ n. n * up b) (neg_is a).1, ap (λ n. n * down b) (neg_is a).1))

pub add_swap : (a b c d : ℤ) → (a +ℤ b) +ℤ (c +ℤ d) ≡ (a +ℤ c) +ℤ (b +ℤ d)
add_swap a b c d = omega (arith, ints)

pub neg_add : (a b : ℤ) → neg_ℤ (a +ℤ b) ≡ neg_ℤ a +ℤ neg_ℤ b
neg_add a b = omega (arith, ints)

pub mul_neg : (a b : ℤ) → a *ℤ neg_ℤ b ≡ neg_ℤ (a *ℤ b)
mul_neg a b = *ℤ_comm a (neg_ℤ b) ∙ neg_mul b a ∙ ap neg_ℤ (*ℤ_comm b a)

pub left_comm : (a b c : ℤ) → a *ℤ (b *ℤ c) ≡ b *ℤ (a *ℤ c)
left_comm a b c = sym (mul_assoc a b c) ∙ ap (λ z. z *ℤ c) (*ℤ_comm a b) ∙ mul_assoc b a c

pub add_mul : (a b c : ℤ) → (a +ℤ b) *ℤ c ≡ a *ℤ c +ℤ b *ℤ c
add_mul a b c = *ℤ_comm (a +ℤ b) c ∙ mul_add c a b ∙ ap (λ z. z +ℤ c *ℤ b) (*ℤ_comm c a) ∙ ap (λ z. a *ℤ c +ℤ z) (*ℤ_comm c b)

-- polynomials in one variable over coefficients in A, from the constant term up
abbrev horner : {A : Type 0} → (A → ℤ) → ℤ → List A → ℤ
horner e x [] = pos 0
horner e x (a ∷ p) = e a +ℤ x *ℤ horner e x p

abbrev add_all : {A : Type 0} → (A → A → A) → List A → List A → List A
add_all f [] q = q
add_all f (a ∷ p) [] = a ∷ p
add_all f (a ∷ p) (b ∷ q) = f a b ∷ add_all f p q

abbrev map_all : {A : Type 0} → (A → A) → List A → List A
map_all f [] = []
map_all f (a ∷ p) = f a ∷ map_all f p

abbrev multiply_all : {A : Type 0} → (A → A → A) → (A → A → A) → A → List A → List A → List A
multiply_all f m z [] q = []
multiply_all f m z (a ∷ p) q = add_all f (map_all (m a) q) (z ∷ multiply_all f m z p q)

abbrev all_zero : {A : Type 0} → (A → Bool) → List A → Bool
all_zero t [] = true
all_zero t (a ∷ p) = elim (t a) [ true ↦ all_zero t p | false ↦ false ]

horner_add : {A : Type 0} (e : A → ℤ) (x : ℤ) (f : A → A → A) → ((a b : A) → e (f a b) ≡ e a +ℤ e b) → (p q : List A) → horner e x (add_all f p q) ≡ horner e x p +ℤ horner e x q
horner_add e x f h [] q = sym (+ℤ_idl (horner e x q))
horner_add e x f h (a ∷ p) [] = sym (+ℤ_idr (e a +ℤ x *ℤ horner e x p))
horner_add e x f h (a ∷ p) (b ∷ q) =
    ap (λ z. z +ℤ x *ℤ horner e x (add_all f p q)) (h a b)
    ∙ ap (λ z. (e a +ℤ e b) +ℤ x *ℤ z) (horner_add e x f h p q)
    ∙ ap (λ z. (e a +ℤ e b) +ℤ z) (mul_add x (horner e x p) (horner e x q))
    ∙ add_swap (e a) (e b) (x *ℤ horner e x p) (x *ℤ horner e x q)

horner_neg : {A : Type 0} (e : A → ℤ) (x : ℤ) (n : A → A) → ((a : A) → e (n a) ≡ neg_ℤ (e a)) → (p : List A) → horner e x (map_all n p) ≡ neg_ℤ (horner e x p)
horner_neg e x n h [] = refl
horner_neg e x n h (a ∷ p) =
    ap (λ z. z +ℤ x *ℤ horner e x (map_all n p)) (h a)
    ∙ ap (λ z. neg_ℤ (e a) +ℤ x *ℤ z) (horner_neg e x n h p)
    ∙ ap (λ z. neg_ℤ (e a) +ℤ z) (mul_neg x (horner e x p))
    ∙ sym (neg_add (e a) (x *ℤ horner e x p))

horner_scale : {A : Type 0} (e : A → ℤ) (x : ℤ) (m : A → A → A) → ((a b : A) → e (m a b) ≡ e a *ℤ e b) → (a : A) (q : List A) → horner e x (map_all (m a) q) ≡ e a *ℤ horner e x q
horner_scale e x m h a [] = sym (*ℤ-zero (e a))
horner_scale e x m h a (b ∷ q) =
    ap (λ z. z +ℤ x *ℤ horner e x (map_all (m a) q)) (h a b)
    ∙ ap (λ z. e a *ℤ e b +ℤ x *ℤ z) (horner_scale e x m h a q)
    ∙ ap (λ z. e a *ℤ e b +ℤ z) (left_comm x (e a) (horner e x q))
    ∙ sym (mul_add (e a) (e b) (x *ℤ horner e x q))

horner_mul : {A : Type 0} (e : A → ℤ) (x : ℤ) (f m : A → A → A) (z : A) → ((a b : A) → e (f a b) ≡ e a +ℤ e b) → ((a b : A) → e (m a b) ≡ e a *ℤ e b) → e z ≡ pos 0 → (p q : List A) → horner e x (multiply_all f m z p q) ≡ horner e x p *ℤ horner e x q
horner_mul e x f m z hf hm hz [] q = sym (zero-*ℤ (horner e x q))
horner_mul e x f m z hf hm hz (a ∷ p) q =
    horner_add e x f hf (map_all (m a) q) (z ∷ multiply_all f m z p q)
    ∙ ap (λ w. w +ℤ (e z +ℤ x *ℤ horner e x (multiply_all f m z p q))) (horner_scale e x m hm a q)
    ∙ ap (λ w. e a *ℤ horner e x q +ℤ (w +ℤ x *ℤ horner e x (multiply_all f m z p q))) hz
    ∙ ap (λ w. e a *ℤ horner e x q +ℤ w) (+ℤ_idl (x *ℤ horner e x (multiply_all f m z p q)))
    ∙ ap (λ w. e a *ℤ horner e x q +ℤ x *ℤ w) (horner_mul e x f m z hf hm hz p q)
    ∙ ap (λ w. e a *ℤ horner e x q +ℤ w) (sym (mul_assoc x (horner e x p) (horner e x q)))
    ∙ sym (add_mul (e a) (x *ℤ horner e x p) (horner e x q))

both_true : (b c : Bool) → T (elim b [ true ↦ c | false ↦ false ]) → T b × T c
both_true true c y = (tt, y)
both_true false c y = absurd y

horner_zero : {A : Type 0} (e : A → ℤ) (x : ℤ) (t : A → Bool) → ((a : A) → T (t a) → e a ≡ pos 0) → (p : List A) → T (all_zero t p) → horner e x p ≡ pos 0
horner_zero e x t h [] y = refl
horner_zero e x t h (a ∷ p) y =
    let both : T (t a) × T (all_zero t p) = both_true (t a) (all_zero t p) y
    in ap (λ w. w +ℤ x *ℤ horner e x p) (h a both.0) ∙ +ℤ_idl (x *ℤ horner e x p) ∙ ap (λ w. x *ℤ w) (horner_zero e x t h p both.1) ∙ *ℤ-zero x

-- in n variables
abbrev pub Poly : ℕ → Type 0
Poly zero = ℤ
Poly (suc n) = List (Poly n)

abbrev is_zero : ℤ → Bool
is_zero (pos zero) = true
is_zero (pos (suc n)) = false
is_zero (negsuc n) = false

abbrev pub first_of : List ℤ → ℤ
first_of [] = pos 0
first_of (x ∷ xs) = x

abbrev pub rest_of : List ℤ → List ℤ
rest_of [] = []
rest_of (x ∷ xs) = xs

abbrev pub evaluate : (n : ℕ) → List ℤ → Poly n → ℤ
evaluate zero ρ a = a
evaluate (suc n) ρ p = horner (evaluate n (rest_of ρ)) (first_of ρ) p

abbrev pub add : (n : ℕ) → Poly n → Poly n → Poly n
add zero a b = a +ℤ b
add (suc n) p q = add_all (add n) p q

abbrev pub negate : (n : ℕ) → Poly n → Poly n
negate zero a = neg_ℤ a
negate (suc n) p = map_all (negate n) p

abbrev pub nothing : (n : ℕ) → Poly n
nothing zero = pos 0
nothing (suc n) = []

abbrev pub multiply : (n : ℕ) → Poly n → Poly n → Poly n
multiply zero a b = a *ℤ b
multiply (suc n) p q = multiply_all (add n) (multiply n) (nothing n) p q

abbrev pub constant : (n : ℕ) → ℤ → Poly n
constant zero c = c
constant (suc n) c = constant n c ∷ []

abbrev pub variable : (n : ℕ) → ℕ → Poly n
variable zero i = pos 0
variable (suc n) zero = nothing n ∷ constant n (pos 1) ∷ []
variable (suc n) (suc i) = variable n i ∷ []

abbrev pub is_nothing : (n : ℕ) → Poly n → Bool
is_nothing zero a = is_zero a
is_nothing (suc n) p = all_zero (is_nothing n) p

abbrev pub value_at : (n : ℕ) → List ℤ → ℕ → ℤ
value_at zero ρ i = pos 0
value_at (suc n) ρ zero = first_of ρ
value_at (suc n) ρ (suc i) = value_at n (rest_of ρ) i

nothing_is_zero : (n : ℕ) (ρ : List ℤ) → evaluate n ρ (nothing n) ≡ pos 0
nothing_is_zero zero ρ = refl
nothing_is_zero (suc n) ρ = refl

evaluate_add : (n : ℕ) (ρ : List ℤ) (p q : Poly n) → evaluate n ρ (add n p q) ≡ evaluate n ρ p +ℤ evaluate n ρ q
evaluate_add zero ρ p q = refl
evaluate_add (suc n) ρ p q = horner_add (evaluate n (rest_of ρ)) (first_of ρ) (add n) (evaluate_add n (rest_of ρ)) p q

evaluate_neg : (n : ℕ) (ρ : List ℤ) (p : Poly n) → evaluate n ρ (negate n p) ≡ neg_ℤ (evaluate n ρ p)
evaluate_neg zero ρ p = refl
evaluate_neg (suc n) ρ p = horner_neg (evaluate n (rest_of ρ)) (first_of ρ) (negate n) (evaluate_neg n (rest_of ρ)) p

evaluate_mul : (n : ℕ) (ρ : List ℤ) (p q : Poly n) → evaluate n ρ (multiply n p q) ≡ evaluate n ρ p *ℤ evaluate n ρ q
evaluate_mul zero ρ p q = refl
evaluate_mul (suc n) ρ p q =
    horner_mul (evaluate n (rest_of ρ)) (first_of ρ) (add n) (multiply n) (nothing n) (evaluate_add n (rest_of ρ)) (evaluate_mul n (rest_of ρ)) (nothing_is_zero n (rest_of ρ)) p q

evaluate_constant : (n : ℕ) (ρ : List ℤ) (c : ℤ) → evaluate n ρ (constant n c) ≡ c
evaluate_constant zero ρ c = refl
evaluate_constant (suc n) ρ c =
    ap (λ z. z +ℤ first_of ρ *ℤ pos 0) (evaluate_constant n (rest_of ρ) c) ∙ ap (λ z. c +ℤ z) (*ℤ-zero (first_of ρ)) ∙ +ℤ_idr c

mul_one : (a : ℤ) → a *ℤ pos 1 ≡ a
mul_one a = same_in _ _ (omega (arith, product_is a (pos 1)))

evaluate_variable : (n : ℕ) (ρ : List ℤ) (i : ℕ) → evaluate n ρ (variable n i) ≡ value_at n ρ i
evaluate_variable zero ρ i = refl
evaluate_variable (suc n) ρ zero =
    ap (λ z. z +ℤ first_of ρ *ℤ (evaluate n (rest_of ρ) (constant n (pos 1)) +ℤ first_of ρ *ℤ pos 0)) (nothing_is_zero n (rest_of ρ))
    ∙ +ℤ_idl (first_of ρ *ℤ (evaluate n (rest_of ρ) (constant n (pos 1)) +ℤ first_of ρ *ℤ pos 0))
    ∙ ap (λ z. first_of ρ *ℤ z) (ap (λ z. z +ℤ first_of ρ *ℤ pos 0) (evaluate_constant n (rest_of ρ) (pos 1)) ∙ ap (λ z. pos 1 +ℤ z) (*ℤ-zero (first_of ρ)))
    ∙ mul_one (first_of ρ)
evaluate_variable (suc n) ρ (suc i) =
    ap (λ z. z +ℤ first_of ρ *ℤ pos 0) (evaluate_variable n (rest_of ρ) i) ∙ ap (λ z. value_at n (rest_of ρ) i +ℤ z) (*ℤ-zero (first_of ρ)) ∙ +ℤ_idr (value_at n (rest_of ρ) i)

is_zero_is : (a : ℤ) → T (is_zero a) → a ≡ pos 0
is_zero_is (pos zero) t = refl
is_zero_is (pos (suc n)) t = absurd t
is_zero_is (negsuc n) t = absurd t

evaluate_zero : (n : ℕ) (ρ : List ℤ) (p : Poly n) → T (is_nothing n p) → evaluate n ρ p ≡ pos 0
evaluate_zero zero ρ p t = is_zero_is p t
evaluate_zero (suc n) ρ p t = horner_zero (evaluate n (rest_of ρ)) (first_of ρ) (is_nothing n) (evaluate_zero n (rest_of ρ)) p t

-- terms
infixl 6 ◌⊞◌ ◌⊟◌
infixl 7 ◌⊠◌
pub data Term : Type 0 where
  var : ℕ → Term
  num : ℤ → Term
  ◌⊞◌ ◌⊟◌ ◌⊠◌ : Term → Term → Term
  ⊖ : Term → Term

abbrev pub meaning : ℕ → List ℤ → Term → ℤ
meaning n ρ (var i) = value_at n ρ i
meaning n ρ (num c) = c
meaning n ρ (a ⊞ b) = meaning n ρ a +ℤ meaning n ρ b
meaning n ρ (a ⊟ b) = meaning n ρ a -ℤ meaning n ρ b
meaning n ρ (a ⊠ b) = meaning n ρ a *ℤ meaning n ρ b
meaning n ρ (⊖ a) = neg_ℤ (meaning n ρ a)

abbrev pub normal : (n : ℕ) → Term → Poly n
normal n (var i) = variable n i
normal n (num c) = constant n c
normal n (a ⊞ b) = add n (normal n a) (normal n b)
normal n (a ⊟ b) = add n (normal n a) (negate n (normal n b))
normal n (a ⊠ b) = multiply n (normal n a) (normal n b)
normal n (⊖ a) = negate n (normal n a)

normal_is : (n : ℕ) (ρ : List ℤ) (t : Term) → evaluate n ρ (normal n t) ≡ meaning n ρ t
normal_is n ρ (var i) = evaluate_variable n ρ i
normal_is n ρ (num c) = evaluate_constant n ρ c
normal_is n ρ (a ⊞ b) = evaluate_add n ρ (normal n a) (normal n b) ∙ ap (λ z. z +ℤ evaluate n ρ (normal n b)) (normal_is n ρ a) ∙ ap (λ z. meaning n ρ a +ℤ z) (normal_is n ρ b)
normal_is n ρ (a ⊟ b) =
    evaluate_add n ρ (normal n a) (negate n (normal n b))
    ∙ ap (λ z. evaluate n ρ (normal n a) +ℤ z) (evaluate_neg n ρ (normal n b))
    ∙ ap (λ z. z -ℤ evaluate n ρ (normal n b)) (normal_is n ρ a)
    ∙ ap (λ z. meaning n ρ a -ℤ z) (normal_is n ρ b)
normal_is n ρ (a ⊠ b) = evaluate_mul n ρ (normal n a) (normal n b) ∙ ap (λ z. z *ℤ evaluate n ρ (normal n b)) (normal_is n ρ a) ∙ ap (λ z. meaning n ρ a *ℤ z) (normal_is n ρ b)
normal_is n ρ (⊖ a) = evaluate_neg n ρ (normal n a) ∙ ap neg_ℤ (normal_is n ρ a)

difference_zero : (a b : ℤ) → a -ℤ b ≡ pos 0 → a ≡ b
difference_zero a b e = omega (arith, ints)

-- two terms whose difference has no coefficient but 0 are equal at every environment
pub ring : (n : ℕ) (ρ : List ℤ) (s t : Term) → T (is_nothing n (normal n (s ⊟ t))) → meaning n ρ s ≡ meaning n ρ t
ring n ρ s t y = difference_zero (meaning n ρ s) (meaning n ρ t) (sym (normal_is n ρ (s ⊟ t)) ∙ evaluate_zero n ρ (normal n (s ⊟ t)) y)
