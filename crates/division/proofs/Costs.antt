-- The order of costs is a strict weak order; the leftmost least cost of one entry more.
use Rattle.std.proofs.Common.{◌≡◌, ℕ, ◌+◌, true, false, true≢false, sym, refl, subst, subst₂, arith, ltb-false, ltb-true, le-ltb, lt-ltb}
use Rattle.search.specs.Least.{Leftmost}
use Rattle.search.proofs.Least.{WeakOrder, leftmost_takes, leftmost_keeps}
use Rattle.division.specs.declared.cost.Cost.{Cost}
use Rattle.division.specs.declared.cost.Cost.TheVariants.{Number, Empty}
use Rattle.division.specs.Costs.{before}

pub irreflexive : (x : Cost) → before x x ≡ false
irreflexive (Number a) = le-ltb a a (omega arith)
irreflexive Empty = refl

pub transitive : (x y z : Cost) → before x y ≡ true → before y z ≡ true → before x z ≡ true
transitive (Number a) (Number b) (Number c) p q =
    let h = ltb-true a b p in
    let g = ltb-true b c q in
    lt-ltb a c (omega arith)
transitive (Number a) (Number b) Empty p q = refl
transitive (Number a) Empty (Number c) p q = absurd (true≢false (sym q))
transitive (Number a) Empty Empty p q = refl
transitive Empty (Number b) z p q = absurd (true≢false (sym p))
transitive Empty Empty z p q = absurd (true≢false (sym p))

pub weak : (x y z : Cost) → before x y ≡ false → before y z ≡ false → before x z ≡ false
weak (Number a) (Number b) (Number c) p q =
    let h = ltb-false a b p in
    let g = ltb-false b c q in
    le-ltb a c (omega arith)
weak (Number a) (Number b) Empty p q = absurd (true≢false q)
weak (Number a) Empty z p q = absurd (true≢false p)
weak Empty y (Number c) p q = refl
weak Empty y Empty p q = refl

pub order : WeakOrder before
order = record { irreflexive = irreflexive; transitive = transitive; weak = weak }

-- the leftmost least of one entry more, the `next`
module _ (f : ℕ → Cost) (first count best next more : ℕ) (so_far : Leftmost before f first count best) (is_next : first + count ≡ next) (is_more : count + 1 ≡ more) where
  pub leftmost_moves : before (f next) (f best) ≡ true → Leftmost before f first more next
  leftmost_moves p = subst₂ (Leftmost before f first) is_more is_next (leftmost_takes order f first count best so_far (rw is_next p))

  pub leftmost_stays : before (f next) (f best) ≡ false → Leftmost before f first more best
  leftmost_stays p = subst (λ (n : ℕ). Leftmost before f first n best) is_more (leftmost_keeps order f first count best so_far (rw is_next p))
