-- The figures hold: a case has a test that is computed, a test that passes is sound, and the test of every case passes.
use Rattle.std.proofs.Common.{◌≡◌, ℕ, zero, suc, pred, ◌<◌, Bool, true, false, cond, not, ◌&&◌, T, eqb, ltb, leb, List, [], ◌∷◌, length, get_or, ℤ, pos, negsuc, ◌≤ℤ◌, ◌<ℤ◌, sym, refl, subst, arith}
use Rattle.std.specs.Int.Signed.{le_z, lt_z, le_z_yes, lt_z_yes}
use Rattle.std.specs.List.{AllByRecursion}
use Rattle.std.specs.Str.{bytes_eq}
use Rattle.std.proofs.lemmas.Slice.Eq.{bytes_eq-Decides}
use Rattle.std.proofs.lemmas.Bool.{and_parts, eqb-true, leb-true, ltb-true, lt-ltb, not-true, both_ways}
use Rattle.std.proofs.lemmas.Bool.Decides.{Decides-below_and}
use Rattle.division.specs.declared.cost.Cost.{Cost}
use Rattle.division.specs.declared.cost.Cost.TheVariants.{Number, Empty}
use Rattle.division.specs.Divisions.{Divides, Least, Best, Tally, total}
use Rattle.division.proofs.Divisions.{row, tables, ends_of, ends_best, best_is_one}
use Rattle.hull.specs.declared.corner.Corner.{Corner}
use Rattle.hull.specs.Plane.{Coordinate, Near, turn, distance, corner_at}
use Rattle.hull.specs.Convex.{Enough, AllNear, AllLeft}
use Rattle.hull.specs.Farthest.{Farthest, steps}
use Rattle.hull.specs.Widest.{AllFarthest}
use Rattle.figures.specs.Figures.{Case, exactly, divided, passed_over, farthest, Holds, cases, FiguresStand}

-- Tests in general.

-- a test at each number below n
abbrev below : (ℕ → Bool) → ℕ → Bool
below p zero = true
below p (suc n) = p n && below p n

below_at : (p : ℕ → Bool) (n : ℕ) → below p n ≡ true → (k : ℕ) → k < n → p k ≡ true
below_at p n = (Decides-below_and p (λ k. p k ≡ true) (below p) (λ k. (λ e. e, λ e. e)) refl (λ _. refl) n).0

-- a test that matters only where another passes
abbrev only_if : Bool → Bool → Bool
only_if b a = cond b a true

passes_if : (b a : Bool) → only_if b a ≡ true → b ≡ true → a ≡ true
passes_if true a t e = t
passes_if false a t e = absurd (both_ways false refl e)

at_most : (a b : ℤ) → le_z a b ≡ true → a ≤ℤ b
at_most a b t = le_z_yes (subst T (sym t) tt)

less : (a b : ℤ) → lt_z a b ≡ true → a <ℤ b
less a b t = lt_z_yes (subst T (sym t) tt)

-- Tests of divisions, by the tallies and the best ends that can be computed of any weights.

abbrev is_number : Cost → ℕ → Bool
is_number (Number u) v = eqb u v
is_number Empty v = false

tally_is_least : (weight : ℕ → ℕ → ℕ) (k n v : ℕ) (c : Cost) → Tally weight k n c → is_number c v ≡ true → Least weight k n v
tally_is_least weight k n v (Number u) l t = subst (Least weight k n) (eqb-true u v t) l
tally_is_least weight k n v Empty l t = absurd (both_ways false refl t)

abbrev some_of : ℕ → ℕ → Bool
some_of n k = ltb 0 n && ltb 0 k

abbrev best_ends : (ℕ → ℕ → ℕ) → ℕ → ℕ → List ℕ
best_ends weight n k = ends_of weight (pred n) (pred k)

best_ends_stand : (weight : ℕ → ℕ → ℕ) (n k : ℕ) → some_of n k ≡ true → Best weight n k (best_ends weight n k)
best_ends_stand weight zero k t = absurd (both_ways false refl t)
best_ends_stand weight (suc m) zero t = absurd (both_ways false refl (and_parts (ltb 0 (suc m)) false t).1)
best_ends_stand weight (suc m) (suc l) t = ends_best weight m l

abbrev is_best : (ℕ → ℕ → ℕ) → ℕ → ℕ → List ℕ → Bool
is_best weight n k ends = bytes_eq (best_ends weight n k) ends

is_best_sound : (weight : ℕ → ℕ → ℕ) (n k : ℕ) (ends : List ℕ) → some_of n k ≡ true → is_best weight n k ends ≡ true → Best weight n k ends
is_best_sound weight n k ends some t = subst (Best weight n k) ((bytes_eq-Decides (best_ends weight n k) ends).0 t) (best_ends_stand weight n k some)

is_best_complete : (weight : ℕ → ℕ → ℕ) (n k : ℕ) (ends : List ℕ) → some_of n k ≡ true → Best weight n k ends → is_best weight n k ends ≡ true
is_best_complete weight n k ends some b =
    (bytes_eq-Decides (best_ends weight n k) ends).1 (best_is_one weight n k (best_ends weight n k) ends (best_ends_stand weight n k some) b)

abbrev is_division : ℕ → List ℕ → ℕ → Bool
is_division from [] to = eqb from to
is_division from (e ∷ ends) to = ltb from e && is_division e ends to

is_division_sound : (from : ℕ) (ends : List ℕ) (to : ℕ) → is_division from ends to ≡ true → Divides from ends to
is_division_sound from [] to t = eqb-true from to t
is_division_sound from (e ∷ ends) to t =
    let parts = and_parts (ltb from e) (is_division e ends to) t in
    (ltb-true from e parts.0, is_division_sound e ends to parts.1)

-- Tests of hulls, corner by corner.

abbrev is_coordinate : ℤ → Bool
is_coordinate z = le_z (negsuc 29999) z && le_z z (pos 30000)

is_coordinate_sound : (z : ℤ) → is_coordinate z ≡ true → Coordinate z
is_coordinate_sound z t =
    let parts = and_parts (le_z (negsuc 29999) z) (le_z z (pos 30000)) t in
    (at_most (negsuc 29999) z parts.0, at_most z (pos 30000) parts.1)

module _ (cs : List Corner) where
  abbrev is_near : ℕ → Bool
  is_near i = is_coordinate (corner_at cs i).x && is_coordinate (corner_at cs i).y

  is_near_sound : (i : ℕ) → is_near i ≡ true → Near (corner_at cs i)
  is_near_sound i t =
      let parts = and_parts (is_coordinate (corner_at cs i).x) (is_coordinate (corner_at cs i).y) t in
      (is_coordinate_sound (corner_at cs i).x parts.0, is_coordinate_sound (corner_at cs i).y parts.1)

  abbrev turns_left : ℕ → ℕ → ℕ → Bool
  turns_left k j i = lt_z (pos 0) (turn (corner_at cs i) (corner_at cs j) (corner_at cs k))

  abbrev all_left : Bool
  all_left = below (λ k. below (λ j. below (turns_left k j) j) k) (length cs)

  all_left_sound : all_left ≡ true → AllLeft cs
  all_left_sound t i j k h =
      less (pos 0) (turn (corner_at cs i) (corner_at cs j) (corner_at cs k))
      (below_at (turns_left k j) j
      (below_at (λ j. below (turns_left k j) j) k (below_at (λ k. below (λ j. below (turns_left k j) j) k) (length cs) t k h.2) j h.1) i h.0)

  abbrev is_hull : Bool
  is_hull = (leb 3 (length cs) && leb (length cs) 512) && (below is_near (length cs) && all_left)

  is_hull_sound : is_hull ≡ true → Enough cs × AllNear cs × AllLeft cs
  is_hull_sound t =
      let parts = and_parts (leb 3 (length cs) && leb (length cs) 512) (below is_near (length cs) && all_left) t in
      let enough = and_parts (leb 3 (length cs)) (leb (length cs) 512) parts.0 in
      let shape = and_parts (below is_near (length cs)) all_left parts.1 in (
        (leb-true 3 (length cs) enough.0, leb-true (length cs) 512 enough.1),
        λ i h. is_near_sound i (below_at is_near (length cs) shape.0 i h),
        all_left_sound shape.1,
      )

  abbrev apart : ℕ → ℕ → ℤ
  apart i j = distance (corner_at cs i) (corner_at cs j)

  abbrev no_farther : ℕ → ℕ → ℕ → Bool
  no_farther i q j = le_z (apart i j) (apart i q)

  abbrev nearer_before : ℕ → ℕ → ℕ → Bool
  nearer_before i q j = only_if (ltb (steps (length cs) i j) (steps (length cs) i q)) (lt_z (apart i j) (apart i q))

  abbrev is_farthest : ℕ → ℕ → Bool
  is_farthest i q = ltb q (length cs) && (below (no_farther i q) (length cs) && below (nearer_before i q) (length cs))

  is_farthest_sound : (i q : ℕ) → is_farthest i q ≡ true → Farthest cs i q
  is_farthest_sound i q t =
      let parts = and_parts (ltb q (length cs)) (below (no_farther i q) (length cs) && below (nearer_before i q) (length cs)) t in
      let reach = and_parts (below (no_farther i q) (length cs)) (below (nearer_before i q) (length cs)) parts.1 in
      record {
        there = ltb-true q (length cs) parts.0;
        none_farther = λ j h. at_most (apart i j) (apart i q) (below_at (no_farther i q) (length cs) reach.0 j h);
        first_met = λ j h before.
            less (apart i j) (apart i q)
            (passes_if (ltb (steps (length cs) i j) (steps (length cs) i q)) (lt_z (apart i j) (apart i q)) (below_at (nearer_before i q) (length cs) reach.1 j h) (lt-ltb (steps (length cs) i j) (steps (length cs) i q) before));
      }

  abbrev all_farthest : List ℕ → Bool
  all_farthest partners = below (λ i. is_farthest i (get_or partners i 0)) (length cs)

  all_farthest_sound : (partners : List ℕ) → all_farthest partners ≡ true → AllFarthest cs partners
  all_farthest_sound partners t i h = is_farthest_sound i (get_or partners i 0) (below_at (λ i. is_farthest i (get_or partners i 0)) (length cs) t i h)

-- The test of a case.

abbrev weighs_so : (ℕ → ℕ → ℕ) → List ℕ → ℕ → Bool
weighs_so weight ends weighs = eqb (total weight 0 ends) weighs

abbrev check : Case → Bool
check (exactly weight n k least) = is_number (row weight n k n) least
check (divided weight n k ends weighs) = some_of n k && (is_best weight n k ends && weighs_so weight ends weighs)
check (passed_over weight n k ends weighs) =
    some_of n k && (not (is_best weight n k ends) && (weighs_so weight ends weighs && (is_division 0 ends n && leb (length ends) k)))
check (farthest corners partners) = is_hull corners && (eqb (length partners) (length corners) && all_farthest corners partners)

check_sound : (c : Case) → check c ≡ true → Holds c
check_sound (exactly weight n k least) t =
    tally_is_least weight k n least (row weight n k n) ((tables weight n k).tallied k n (omega arith) (omega arith)) t
check_sound (divided weight n k ends weighs) t =
    let parts = and_parts (some_of n k) (is_best weight n k ends && weighs_so weight ends weighs) t in
    let figure = and_parts (is_best weight n k ends) (weighs_so weight ends weighs) parts.1 in
    (is_best_sound weight n k ends parts.0 figure.0, eqb-true (total weight 0 ends) weighs figure.1)
check_sound (passed_over weight n k ends weighs) t =
    let parts =
    and_parts (some_of n k) (not (is_best weight n k ends) && (weighs_so weight ends weighs && (is_division 0 ends n && leb (length ends) k))) t in
    let figure = and_parts (not (is_best weight n k ends)) (weighs_so weight ends weighs && (is_division 0 ends n && leb (length ends) k)) parts.1 in
    let other = and_parts (weighs_so weight ends weighs) (is_division 0 ends n && leb (length ends) k) figure.1 in
    let shape = and_parts (is_division 0 ends n) (leb (length ends) k) other.1 in (
      is_division_sound 0 ends n shape.0,
      leb-true (length ends) k shape.1,
      eqb-true (total weight 0 ends) weighs other.0,
      λ b. both_ways (is_best weight n k ends) (not-true (is_best weight n k ends) figure.0) (is_best_complete weight n k ends parts.0 b),
    )
check_sound (farthest corners partners) t =
    let parts = and_parts (is_hull corners) (eqb (length partners) (length corners) && all_farthest corners partners) t in
    let figure = and_parts (eqb (length partners) (length corners)) (all_farthest corners partners) parts.1 in
    let hull = is_hull_sound corners parts.0 in
    (hull.0, hull.1, hull.2, eqb-true (length partners) (length corners) figure.0, all_farthest_sound corners partners figure.1)

abbrev check_all : List Case → Bool
check_all [] = true
check_all (c ∷ cs) = check c && check_all cs

check_all_sound : (cs : List Case) → check_all cs ≡ true → AllByRecursion Holds cs
check_all_sound [] t = tt
check_all_sound (c ∷ cs) t =
    let parts = and_parts (check c) (check_all cs) t in
    (check_sound c parts.0, check_all_sound cs parts.1)

pub figures_stand_lem : FiguresStand
unfolding ends_of
figures_stand_lem = check_all_sound cases refl
