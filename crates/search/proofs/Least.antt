-- The leftmost least of a run exists and is one, under any strict weak order; and how it changes as the run grows.
use Rattle.std.proofs.Common.{◌≡◌, ℕ, zero, suc, ◌+◌, ◌-◌, ◌<◌, ◌≤◌, Bool, true, false, subst, ⊎_elim, arith}
use Rattle.std.proofs.lemmas.Bool.{both_ways, cases_Bool, cases_order, cases_lt}
use Rattle.search.specs.Least.{Leftmost}

-- a strict weak order, decided by `before`
pub record WeakOrder {E : Type 0} (before : E → E → Bool) : Type 0 where
  pub irreflexive : (x : E) → before x x ≡ false
  pub transitive : (x y z : E) → before x y ≡ true → before y z ≡ true → before x z ≡ true
  pub weak : (x y z : E) → before x y ≡ false → before y z ≡ false → before x z ≡ false

module _ {E : Type 0} {before : E → E → Bool} (o : WeakOrder before) where
  -- x stands before y, and z does not: so x stands before z
  pub ahead : (x y z : E) → before x y ≡ true → before z y ≡ false → before x z ≡ true
  ahead x y z p q = ⊎_elim (λ t. t) (λ f. absurd (both_ways (before x y) (o.weak x z y f q) p)) (cases_Bool (before x z))

  -- y stands before z, and x does not: so x does not stand before y
  pub behind : (x y z : E) → before y z ≡ true → before x z ≡ false → before x y ≡ false
  behind x y z p q = ⊎_elim (λ t. absurd (both_ways (before x z) q (o.transitive x y z t p))) (λ f. f) (cases_Bool (before x y))

  pub leftmost_of_one : (f : ℕ → E) (first : ℕ) → Leftmost before f first 1 first
  leftmost_of_one f first = record {
    low = omega arith;
    high = omega arith;
    least = λ k a b. let e : first ≡ k = omega arith in subst (λ n. before (f n) (f first) ≡ false) e (o.irreflexive (f first));
    leftmost = λ k a b. absurd (omega arith);
  }

  -- the next entry does not stand before the best so far
  pub leftmost_keeps : (f : ℕ → E) (first n best : ℕ) → Leftmost before f first n best → before (f (first + n)) (f best) ≡ false → Leftmost before f first (n + 1) best
  leftmost_keeps f first n best l h = record {
    low = l.low;
    high = let x = l.high in omega arith;
    least = λ k a b. ⊎_elim (λ lt. l.least k a lt) (λ ge. let e : first + n ≡ k = omega arith in subst (λ m. before (f m) (f best) ≡ false) e h) (cases_lt k (first + n));
    leftmost = l.leftmost;
  }

  -- the next entry stands before the best so far
  pub leftmost_takes : (f : ℕ → E) (first n best : ℕ) → Leftmost before f first n best → before (f (first + n)) (f best) ≡ true → Leftmost before f first (n + 1) (first + n)
  leftmost_takes f first n best l h = record {
    low = omega arith;
    high = omega arith;
    least = λ k a b. ⊎_elim (λ lt. behind (f k) (f (first + n)) (f best) h (l.least k a lt)) (λ ge. let e : first + n ≡ k = omega arith in subst (λ m. before (f m) (f (first + n)) ≡ false) e (o.irreflexive (f (first + n)))) (cases_lt k (first + n));
    leftmost = λ k a b. ahead (f (first + n)) (f best) (f k) h (l.least k a b);
  }

  -- one turn of a scan that has come to entry n, which is `here`: the best so far is `least`
  pub scan_takes : (f : ℕ → E) (n best : ℕ) (here least : E) → Leftmost before f 0 n best → least ≡ f best → here ≡ f n → before here least ≡ true → Leftmost before f 0 (n + 1) n
  scan_takes f n best here least l p q h =
      let e : 0 + n ≡ n = omega arith in
      subst (λ b. Leftmost before f 0 (n + 1) b) e (leftmost_takes f 0 n best l (rw e (rw (← p, ← q) h)))

  pub scan_keeps : (f : ℕ → E) (n best : ℕ) (here least : E) → Leftmost before f 0 n best → least ≡ f best → here ≡ f n → before here least ≡ false → Leftmost before f 0 (n + 1) best
  scan_keeps f n best here least l p q h =
      let e : 0 + n ≡ n = omega arith in
      leftmost_keeps f 0 n best l (rw e (rw (← p, ← q) h))

  exists_upto : (f : ℕ → E) (first d : ℕ) → (best : ℕ) × Leftmost before f first (d + 1) best
  exists_upto f first zero = (first, leftmost_of_one f first)
  exists_upto f first (suc d) =
      let r = exists_upto f first d in
      let e : (d + 1) + 1 ≡ suc d + 1 = omega arith in
      ⊎_elim
      (λ (t : before (f (first + (d + 1))) (f r.0) ≡ true). (first + (d + 1), subst (λ k. Leftmost before f first k (first + (d + 1))) e (leftmost_takes f first (d + 1) r.0 r.1 t)))
      (λ (u : before (f (first + (d + 1))) (f r.0) ≡ false). (r.0, subst (λ k. Leftmost before f first k r.0) e (leftmost_keeps f first (d + 1) r.0 r.1 u)))
      (cases_Bool (before (f (first + (d + 1))) (f r.0)))

  pub leftmost_exists : (f : ℕ → E) (first count : ℕ) → 0 < count → (best : ℕ) × Leftmost before f first count best
  leftmost_exists f first count pos =
      let r = exists_upto f first (count - 1) in
      let e : (count - 1) + 1 ≡ count = omega arith in
      (r.0, subst (λ k. Leftmost before f first k r.0) e r.1)

-- nothing stands before the leftmost least, so no other can stand before it from the right
not_right_of : {E : Type 0} {before : E → E → Bool} {f : ℕ → E} {first count a b : ℕ} → Leftmost before f first count a → Leftmost before f first count b → a < b → ⊥
not_right_of {a = a} {b = b} x y l = both_ways _ (x.least b y.low y.high) (y.leftmost a x.low l)

pub leftmost_unique : {E : Type 0} {before : E → E → Bool} {f : ℕ → E} {first count a b : ℕ} → Leftmost before f first count a → Leftmost before f first count b → a ≡ b
leftmost_unique {a = a} {b = b} x y = ⊎_elim (λ (e : a ≡ b). e) (⊎_elim (λ (l : a < b). absurd (not_right_of x y l)) (λ (l : b < a). absurd (not_right_of y x l))) (cases_order a b)

-- a run whose entries are the same
pub leftmost_same : {E : Type 0} {before : E → E → Bool} {f h : ℕ → E} {first count best : ℕ} → ((k : ℕ) → first ≤ k → k < first + count → f k ≡ h k) → Leftmost before f first count best → Leftmost before h first count best
leftmost_same {before = before} {f = f} {h = h} {best = best} e l =
    let at-best : f best ≡ h best = e best l.low l.high in
    let top = l.high in
    record {
      low = l.low;
      high = l.high;
      least = λ k a b. subst (λ x. before x (h best) ≡ false) (e k a b) (subst (λ x. before (f k) x ≡ false) at-best (l.least k a b));
      leftmost = λ k a b. subst (λ x. before (h best) x ≡ true) (e k a (omega arith)) (subst (λ x. before x (f k) ≡ true) at-best (l.leftmost k a b));
    }

-- a run that is counted from its first entry
pub leftmost_from : {E : Type 0} {before : E → E → Bool} {f : ℕ → E} {first count best : ℕ} → Leftmost before (λ j. f (first + j)) 0 count best → Leftmost before f first count (first + best)
leftmost_from {before = before} {f = f} {first = first} {best = best} l =
    let top = l.high in
    record {
      low = omega arith;
      high = omega arith;
      least = λ k a b. let e : first + (k - first) ≡ k = omega arith in subst (λ x. before (f x) (f (first + best)) ≡ false) e (l.least (k - first) (omega arith) (omega arith));
      leftmost = λ k a b. let e : first + (k - first) ≡ k = omega arith in subst (λ x. before (f (first + best)) (f x) ≡ true) e (l.leftmost (k - first) (omega arith) (omega arith));
    }
