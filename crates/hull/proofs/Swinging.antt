-- The greatest swing, one corner after the other.
use Rattle.std.proofs.Common.{◌≡◌, ℕ, ◌+◌, ◌<◌, ◌⊎◌, List, length, get_or, ℤ, pos, ◌≤ℤ◌, ◌<ℤ◌, sym, subst, inl, inr, arith}
use Rattle.std.proofs.lemmas.Int.{ints}
use Rattle.std.proofs.Math.Nat.{eq-or-lt_of_le}
use Rattle.std.specs.Int.{int_max}
use Rattle.hull.specs.declared.corner.Corner.{Corner}
use Rattle.hull.specs.Plane.{distance, corner_at}
use Rattle.hull.specs.PlaneLemmas.{distance_nonneg}
use Rattle.hull.specs.Widest.{swing_of, Greatest, AllFarthest, Widest}

at_most_self : (a b : ℤ) → a ≡ b → b ≤ℤ a
at_most_self a b e = omega (arith, ints)

at_most_through : (a b c : ℤ) → a ≤ℤ b → b ≤ℤ c → a ≤ℤ c
at_most_through a b c h g = omega (arith, ints)

at_most_below : (a b c : ℤ) → a ≤ℤ b → b <ℤ c → a ≤ℤ c
at_most_below a b c h g = omega (arith, ints)

pub greatest_first : (cs : List Corner) (partners : List ℕ) (d : ℤ) → d ≡ swing_of cs partners 0 → Greatest cs partners 1 d
greatest_first cs partners d e =
    record {
      holder = 0;
      holder_in = omega arith;
      has_it = e;
      none_more = λ i h. let first : 0 ≡ i = omega arith in subst (λ (k : ℕ). swing_of cs partners k ≤ℤ d) first (at_most_self d (swing_of cs partners 0) e);
    }

pub greatest_stays : (cs : List Corner) (partners : List ℕ) (m : ℕ) (d e : ℤ) → Greatest cs partners m d → e ≡ swing_of cs partners m → e ≤ℤ d → Greatest cs partners (m + 1) d
greatest_stays cs partners m d e g is low =
    record {
      holder = g.holder;
      holder_in = omega arith;
      has_it = g.has_it;
      none_more = λ i h. elim (eq-or-lt_of_le {n = i} {m = m} (omega arith))
          [ inl last ↦ subst (λ (k : ℕ). swing_of cs partners k ≤ℤ d) (sym last) (subst (λ (z : ℤ). z ≤ℤ d) is low) | inr before ↦ g.none_more i before ];
    }

pub greatest_rises : (cs : List Corner) (partners : List ℕ) (m : ℕ) (d e : ℤ) → Greatest cs partners m d → e ≡ swing_of cs partners m → d <ℤ e → Greatest cs partners (m + 1) e
greatest_rises cs partners m d e g is high =
    record {
      holder = m;
      holder_in = omega arith;
      has_it = is;
      none_more = λ i h. elim (eq-or-lt_of_le {n = i} {m = m} (omega arith)) [
        | inl last ↦ subst (λ (k : ℕ). swing_of cs partners k ≤ℤ e) (sym last) (at_most_self e (swing_of cs partners m) is)
        | inr before ↦ at_most_below (swing_of cs partners i) d e (g.none_more i before) high
      ];
    }

-- among farthest corners the greatest swing is that of any two corners
pub greatest_is_widest : (cs : List Corner) (partners : List ℕ) (d : ℤ) → Greatest cs partners (length cs) d → AllFarthest cs partners → Widest cs d
greatest_is_widest cs partners d g far =
    record {
      one = g.holder;
      other = get_or partners g.holder 0;
      one_in = g.holder_in;
      other_in = (far g.holder g.holder_in).there;
      apart = g.has_it;
      none_wider = λ i j hi hj. at_most_through (distance (corner_at cs i) (corner_at cs j)) (swing_of cs partners i) d ((far i hi).none_farther j hj) (g.none_more i hi);
    }

-- the greatest swing of the first m corners, or 0 of none
abbrev pub GreatestSoFar : List Corner → List ℕ → ℕ → ℤ → Type 0
GreatestSoFar cs partners m d = ((m ≡ 0) × (d ≡ pos 0)) ⊎ Greatest cs partners m d

-- one corner more
max_either : (e d : ℤ) → ((int_max e d ≡ e) × (d <ℤ e)) ⊎ ((int_max e d ≡ d) × (e ≤ℤ d))
max_either e d = grind (arith, ints)

max_from_zero : (e : ℤ) → pos 0 ≤ℤ e → int_max e (pos 0) ≡ e
max_from_zero e h = grind (arith, ints)

pub greatest_next : (cs : List Corner) (partners : List ℕ) (m : ℕ) (d e : ℤ) → GreatestSoFar cs partners m d → e ≡ swing_of cs partners m → GreatestSoFar cs partners (m + 1) (int_max e d)
greatest_next cs partners m d e so_far is =
    elim so_far [
      | inl none ↦
          let first : e ≡ swing_of cs partners 0 = subst (λ k. e ≡ swing_of cs partners k) none.0 is in
          let up : pos 0 ≤ℤ e = subst (λ z. pos 0 ≤ℤ z) (sym first) (distance_nonneg (corner_at cs 0) (corner_at cs (get_or partners 0 0))) in
          rw (none.0, none.1) (rw (max_from_zero e up) (inr (greatest_first cs partners e first)))
      | inr some ↦ elim (max_either e d) [
        | inl more ↦ rw more.0 (inr (greatest_rises cs partners m d e some is more.1))
        | inr less ↦ rw less.0 (inr (greatest_stays cs partners m d e some is less.1))
      ]
    ]

pub greatest_of_all : (cs : List Corner) (partners : List ℕ) (m : ℕ) (d : ℤ) → GreatestSoFar cs partners m d → 0 < m → Greatest cs partners m d
greatest_of_all cs partners m d so_far some =
    elim so_far [
      | inl none ↦ absurd (omega (arith, none.0))
      | inr all ↦ all
    ]
