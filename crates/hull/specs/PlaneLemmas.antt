-- Turns and squared distances: what left turns say of one another, and which of two corners is the nearer.
-- Each fact is one polynomial identity, read for its signs.
use Rattle.std.specs.Prelude.{◌≡◌, true, List, [], ◌∷◌, ℤ, pos, ◌+ℤ◌, ◌-ℤ◌, ◌*ℤ◌, ◌≤ℤ◌, ◌<ℤ◌, int_lt}
use Rattle.std.proofs.Common.{sym, ◌∙◌, subst, arith}
use Rattle.std.proofs.lemmas.Int.{ints}
use Rattle.std.proofs.Math.IntN.{*ℤ_comm}
use Rattle.hull.specs.declared.corner.Corner.{Corner}
use Rattle.hull.specs.Plane.{turn, distance, Left}
use Rattle.hull.specs.Ring.{ring, Term, var, num, ◌⊞◌, ◌⊟◌, ◌⊠◌}
use Rattle.hull.specs.Signs.{mul_pos, square_nonneg, add_pos, add_nonneg, pos_add_nonneg, pos_nonneg, below_difference, difference_below, nonneg_factor, positive_solution}

-- corners, turns and distances as terms of the ring
record Place : Type 0 where
  px : Term
  py : Term

abbrev Turn : Place → Place → Place → Term
Turn o p q = (p.px ⊟ o.px) ⊠ (q.py ⊟ o.py) ⊟ (p.py ⊟ o.py) ⊠ (q.px ⊟ o.px)

abbrev Distance : Place → Place → Term
Distance p q = (p.px ⊟ q.px) ⊠ (p.px ⊟ q.px) ⊞ (p.py ⊟ q.py) ⊠ (p.py ⊟ q.py)

abbrev first : Place
first = record { px = var 0; py = var 1 }

abbrev second : Place
second = record { px = var 2; py = var 3 }

abbrev third : Place
third = record { px = var 4; py = var 5 }

abbrev fourth : Place
fourth = record { px = var 6; py = var 7 }

abbrev fifth : Place
fifth = record { px = var 8; py = var 9 }

abbrev coordinates : List Corner → List ℤ
coordinates [] = []
coordinates (p ∷ ps) = p.x ∷ p.y ∷ coordinates ps

-- a turn is the same from each of its corners
turn_on : (a b c : Corner) → turn a b c ≡ turn b c a
turn_on a b c = ring 6 (coordinates (a ∷ b ∷ c ∷ [])) (Turn first second third) (Turn second third first) tt

pub left_on : (a b c : Corner) → Left a b c → Left b c a
left_on a b c h = subst (λ z. pos 0 <ℤ z) (turn_on a b c) h

pub left_back : (a b c : Corner) → Left a b c → Left c a b
left_back a b c h = left_on b c a (left_on a b c h)

-- the test of a turn's sign
tested : (z : ℤ) → true ≡ int_lt (pos 0) z → pos 0 <ℤ z
tested z e = omega (arith, ints)

pub left_tested : (o p q : Corner) → true ≡ int_lt (pos 0) (turn o p q) → Left o p q
left_tested o p q e = tested (turn o p q) e

-- about a corner o, four turns of u, z, p, q settle a fifth
five_turns : (o u z p q : Corner) → turn o z q *ℤ turn o u p ≡ turn o u z *ℤ turn o p q +ℤ turn o u q *ℤ turn o z p
five_turns o u z p q =
    ring 10 (coordinates (o ∷ u ∷ z ∷ p ∷ q ∷ [])) (Turn first third fifth ⊠ Turn first second fourth)
    (Turn first second third ⊠ Turn first fourth fifth ⊞ Turn first second fifth ⊠ Turn first third fourth)
    tt

pub left_before : (o u z p q : Corner) → Left o u z → Left o z p → Left o z q → Left o p q → Left o u q → Left o u p
left_before o u z p q uz zp zq pq uq =
    positive_solution (turn o z q) (turn o u p) (turn o u z) (turn o p q) (turn o u q) (turn o z p) (five_turns o u z p q) zq uz pq uq (pos_nonneg _ zp)

pub left_beyond : (o u z p q : Corner) → Left o u z → Left o u p → Left o u q → Left o z p → Left o p q → Left o z q
left_beyond o u z p q uz up uq zp pq =
    positive_solution (turn o u p) (turn o z q) (turn o u z) (turn o p q) (turn o u q) (turn o z p) (*ℤ_comm (turn o u p) (turn o z q) ∙ five_turns o u z p q) up uz pq uq (pos_nonneg _ zp)

-- distances
pub distance_comm : (p q : Corner) → distance p q ≡ distance q p
distance_comm p q = ring 4 (coordinates (p ∷ q ∷ [])) (Distance first second) (Distance second first) tt

pub distance_self : (p : Corner) → distance p p ≡ pos 0
distance_self p = ring 2 (coordinates (p ∷ [])) (Distance first first) (num (pos 0)) tt

pub distance_nonneg : (p q : Corner) → pos 0 ≤ℤ distance p q
distance_nonneg p q = add_nonneg _ _ (square_nonneg (p.x -ℤ q.x)) (square_nonneg (p.y -ℤ q.y))

-- how much farther p is from b than from a
abbrev gap : Corner → Corner → Corner → ℤ
gap a b p = distance p b -ℤ distance p a

abbrev Gap : Place → Place → Place → Term
Gap a b p = Distance p b ⊟ Distance p a

gap_moves : (r s a b : Corner) → turn r a b *ℤ gap a b s ≡ turn s a b *ℤ gap a b r +ℤ (turn r s b +ℤ turn r s a) *ℤ distance a b
gap_moves r s a b =
    ring 8 (coordinates (r ∷ s ∷ a ∷ b ∷ [])) (Turn first third fourth ⊠ Gap third fourth second)
    (Turn second third fourth ⊠ Gap third fourth first ⊞ (Turn first second fourth ⊞ Turn first second third) ⊠ Distance third fourth)
    tt

-- where r, s, a, b stand around a convex hull in this order and a is nearer to r than b is, a is nearer to s too
pub nearer_stays : (r s a b : Corner) → Left r s a → Left r s b → Left r a b → Left s a b → distance r a <ℤ distance r b → distance s a <ℤ distance s b
nearer_stays r s a b rsa rsb rab sab h =
    difference_below (distance s a) (distance s b)
    (positive_solution (turn r a b) (gap a b s) (turn s a b) (gap a b r) (turn r s b +ℤ turn r s a) (distance a b)
    (gap_moves r s a b) rab sab (below_difference (distance r a) (distance r b) h) (add_pos _ _ rsb rsa) (distance_nonneg a b))

-- corners of a left turn are apart
abbrev dot : Corner → Corner → Corner → ℤ
dot p q o = (q.x -ℤ p.x) *ℤ (o.x -ℤ p.x) +ℤ (q.y -ℤ p.y) *ℤ (o.y -ℤ p.y)

abbrev Dot : Place → Place → Place → Term
Dot p q o = (q.px ⊟ p.px) ⊠ (o.px ⊟ p.px) ⊞ (q.py ⊟ p.py) ⊠ (o.py ⊟ p.py)

lagrange : (p q o : Corner) → distance p q *ℤ distance p o ≡ turn p q o *ℤ turn p q o +ℤ dot p q o *ℤ dot p q o
lagrange p q o =
    ring 6 (coordinates (p ∷ q ∷ o ∷ [])) (Distance first second ⊠ Distance first third)
    (Turn first second third ⊠ Turn first second third ⊞ Dot first second third ⊠ Dot first second third)
    tt

pub left_apart : (p q o : Corner) → Left p q o → pos 0 <ℤ distance p q
left_apart p q o h =
    nonneg_factor (distance p q) (distance p o) (distance_nonneg p q)
    (subst (λ z. pos 0 <ℤ z) (sym (lagrange p q o))
    (pos_add_nonneg (turn p q o *ℤ turn p q o) (dot p q o *ℤ dot p q o) (mul_pos (turn p q o) (turn p q o) h h) (square_nonneg (dot p q o))))
