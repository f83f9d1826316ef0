-- Divisions by their last span.
use Rattle.std.proofs.Common.{◌≡◌, ℕ, suc, ◌+◌, ◌<◌, ◌≤◌, List, [], ◌∷◌, ◌++◌, length, refl, ap, ◌∙◌, arith, length-append}
use Rattle.division.specs.Divisions.{Divides, Division, total}

pub divides_le : (from : ℕ) (ends : List ℕ) (to : ℕ) → Divides from ends to → from ≤ to
divides_le from [] to e = omega arith
divides_le from (x ∷ xs) to d = let h = divides_le x xs to d.1 in omega (arith, d.0)

divides_snoc : (from : ℕ) (xs : List ℕ) (a j : ℕ) → Divides from xs a → a < j → Divides from (xs ++ (j ∷ [])) j
divides_snoc from [] a j e h = (omega arith, refl)
divides_snoc from (x ∷ xs) a j d h = (d.0, divides_snoc x xs a j d.1 h)

total_snoc : (weight : ℕ → ℕ → ℕ) (from : ℕ) (xs : List ℕ) (a j : ℕ) → Divides from xs a → total weight from (xs ++ (j ∷ [])) ≡ total weight from xs + weight a j
total_snoc weight from [] a j e = let h : weight from j ≡ weight a j = ap (λ (x : ℕ). weight x j) e in omega arith
total_snoc weight from (x ∷ xs) a j d = let h = total_snoc weight x xs a j d.1 in omega arith

-- a division into k + 1 spans is one into k spans and a last span
pub record Parted (k j : ℕ) (ends : List ℕ) : Type 0 where
  pub cut : ℕ
  pub front : List ℕ
  pub inside : cut < j
  pub divides : Division k cut front
  pub whole : ends ≡ front ++ (j ∷ [])

pub joined : (k j a : ℕ) (xs : List ℕ) → Division k a xs → a < j → Division (suc k) j (xs ++ (j ∷ []))
joined k j a xs d h =
    record { divides = divides_snoc 0 xs a j d.divides h; many = length-append xs (j ∷ []) ∙ omega (arith, d.many) }

pub total_joined : (weight : ℕ → ℕ → ℕ) (k j a : ℕ) (xs : List ℕ) → Division k a xs → total weight 0 (xs ++ (j ∷ [])) ≡ total weight 0 xs + weight a j
total_joined weight k j a xs d = total_snoc weight 0 xs a j d.divides

split : (from : ℕ) (x : ℕ) (xs : List ℕ) (j : ℕ) → Divides from (x ∷ xs) j → (a : ℕ) × (front : List ℕ) × Divides from front a × (a < j) × (x ∷ xs ≡ front ++ (j ∷ []))
split from x [] j d = (from, [], refl, omega (arith, d.0, d.1), ap (λ (e : ℕ). e ∷ []) d.1)
split from x (y ∷ ys) j d =
    let s = split x y ys j d.1 in
    (s.0, x ∷ s.1, (d.0, s.2), s.3, ap (λ (l : List ℕ). x ∷ l) s.4)

pub parted : (k j : ℕ) (ends : List ℕ) → Division (suc k) j ends → Parted k j ends
parted k j [] d = absurd (omega (arith, d.many))
parted k j (x ∷ xs) d =
    let s = split 0 x xs j d.divides in
    let l : length s.1 ≡ k = omega (arith, d.many, ap length s.4, length-append s.1 (j ∷ [])) in
    record { cut = s.0; front = s.1; inside = s.3; divides = record { divides = s.2; many = l }; whole = s.4 }
