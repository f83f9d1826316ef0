-- A trail written into a list from the back.
use Rattle.std.proofs.Common.{◌≡◌, ℕ, zero, suc, ◌-◌, ◌<◌, ◌≤◌, List, [], ◌∷◌, ◌++◌, length, take, drop, set, refl, ◌∙◌, append_assoc, arith, length-append}
use Rattle.division.specs.Trails.{trail}

pub trail_length : (cut : ℕ → ℕ → ℕ) (k j : ℕ) → length (trail cut k j) ≡ k
trail_length cut zero j = refl
trail_length cut (suc k) j = length-append (trail cut k (cut (suc k) j)) (j ∷ []) ∙ omega (arith, trail_length cut k (cut (suc k) j))

-- what is written stands before what was written earlier
written_first : (m i j : ℕ) (l : List ℕ) → i < m → m ≤ length l → drop i (take m (set l i j)) ≡ j ∷ drop (suc i) (take m l)
written_first zero i j l h g = absurd (omega arith)
written_first (suc m) i j [] h g = absurd (omega arith)
written_first (suc m) zero j (x ∷ l) h g = refl
written_first (suc m) (suc i) j (x ∷ l) h g = written_first m i j l (omega arith) (omega arith)

pub follow_more : (cut : ℕ → ℕ → ℕ) (whole l : List ℕ) (m i j next : ℕ) → 0 < i → i ≤ m → m ≤ length l → next ≡ cut i j → whole ≡ trail cut i j ++ drop i (take m l) → whole ≡ trail cut (i - 1) next ++ drop (i - 1) (take m (set l (i - 1) j))
follow_more cut whole l m zero j next h g r e w = absurd (omega arith)
follow_more cut whole l m (suc i) j next h g r e w =
    let p : suc i - 1 ≡ i = omega arith in
    rw (p, e, written_first m i j l (omega arith) r) (w ∙ append_assoc (trail cut i (cut (suc i) j)) (j ∷ []) (drop (suc i) (take m l)))
