-- The number with the least key of a run, where the key is a cost and then the number itself, is the leftmost least cost.
use Rattle.std.proofs.Common.{◌≡◌, ℕ, ◌+◌, ◌<◌, ◌≤◌, true, false, Some, Option, refl, arith, le-ltb, lt-ltb}
use denote.Param.Members.{Mut}
use denote.Ref.{Bor}
use Rattle.std.proofs.lemmas.Bool.Decides.{nat_tests}
use Rattle.std.specs.Fn.{CalledAt}
use Rattle.std.specs.Iterator.Runs.{Run, NoKeyBeyond, CallKeepsClosure}
use Rattle.std.specs.Ordering.{is_lt, ordering_then, nat_cmp}
use Rattle.std.specs.declared.cmp.Ordering.{Ordering}
use Rattle.search.specs.Least.{Leftmost}
use Rattle.division.specs.declared.cost.Cost.{Cost}
use Rattle.division.specs.declared.cost.Cost.TheVariants.{Number, Empty}
use Rattle.division.specs.contracts.cost.CostOrd.TheImpl.{ghosts}
use Rattle.division.specs.Costs.{before}

-- no key is below that of m
pub none_below : {S F K : Type 0} {steps : S → Option ℕ → S → Type 0} (p : Run steps) (g : Mut F (Bor ℕ × Unit {0}) K) (f : F) (cmp : K → K → Ordering) (key : ℕ → K) (m : ℕ) → CallKeepsClosure g f → ((x : ℕ) (j : K) (f' : F) → CalledAt g f x j f' → j ≡ key x) → NoKeyBeyond p g f is_lt cmp m → (place q : ℕ) → p.at place ≡ Some q → is_lt (cmp (key q) (key m)) ≡ false
none_below p g f cmp key m keeps computes least place q at =
    let l = least keeps in
    let i = rw at at (l.2 place) in
    rw (← computes q i.0 f i.1, ← computes m l.0 f l.1) i.2

not_above : (a b i j : ℕ) → is_lt (ordering_then (nat_cmp a b) (nat_cmp i j)) ≡ false → b ≤ a
not_above a b i j p = grind (arith, nat_tests)

below : (a b i j : ℕ) → i < j → is_lt (ordering_then (nat_cmp a b) (nat_cmp i j)) ≡ false → b < a
below a b i j l p = grind (arith, nat_tests)

never : (i j : ℕ) → i < j → is_lt (nat_cmp i j) ≡ false → ⊥
never i j l p = grind (arith, nat_tests)

behind : (x y : Cost) (i j : ℕ) → is_lt (ordering_then (ghosts.cmp x y) (nat_cmp i j)) ≡ false → before x y ≡ false
behind (Number a) (Number b) i j p = le-ltb a b (not_above a b i j p)
behind (Number a) Empty i j p = p
behind Empty (Number b) i j p = refl
behind Empty Empty i j p = refl

ahead : (x y : Cost) (i j : ℕ) → i < j → is_lt (ordering_then (ghosts.cmp x y) (nat_cmp i j)) ≡ false → before y x ≡ true
ahead (Number a) (Number b) i j l p = lt-ltb b a (below a b i j l p)
ahead (Number a) Empty i j l p = cc
ahead Empty (Number b) i j l p = refl
ahead Empty Empty i j l p = absurd (never i j l p)

pub leftmost_by_key : (f : ℕ → Cost) (k m : ℕ) → 1 ≤ m → m < 1 + k → ((q : ℕ) → 1 ≤ q → q < 1 + k → is_lt (ordering_then (ghosts.cmp (f q) (f m)) (nat_cmp q m)) ≡ false) → Leftmost before f 1 k m
leftmost_by_key f k m low high least = record {
  low = low;
  high = high;
  least = λ q a b. behind (f q) (f m) q m (least q a b);
  leftmost = λ q a b. ahead (f q) (f m) q m b (least q a (omega arith));
}
