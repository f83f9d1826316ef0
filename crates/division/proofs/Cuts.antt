-- Which of two divisions cuts later, by their last spans.
use Rattle.std.proofs.Common.{◌≡◌, ℕ, zero, suc, ◌<◌, List, [], ◌∷◌, ◌++◌, length, get_or, sym, refl, ◌∙◌, subst, arith, length-append}
use Rattle.std.proofs.Math.ListN.{get_or-eq_default}
use Rattle.std.proofs.Math.Seq.{get_or-append_seam}
use Rattle.division.specs.Divisions.{Division, LaterCut}
use Rattle.division.proofs.Snoc.{parted}

-- a common last end keeps what holds of the ends at a place, if it holds of any end and itself where it holds of 0 and 0
snoc_keeps : (R : ℕ → ℕ → Type 0) → ((x : ℕ) → R 0 0 → R x x) → (xs ys : List ℕ) (j q : ℕ) → length xs ≡ length ys → R (get_or xs q 0) (get_or ys q 0) → R (get_or (xs ++ (j ∷ [])) q 0) (get_or (ys ++ (j ∷ [])) q 0)
snoc_keeps R same [] [] j q l e = same (get_or (j ∷ []) q 0) e
snoc_keeps R same [] (y ∷ ys) j q l e = absurd (omega arith)
snoc_keeps R same (x ∷ xs) [] j q l e = absurd (omega arith)
snoc_keeps R same (x ∷ xs) (y ∷ ys) j zero l e = e
snoc_keeps R same (x ∷ xs) (y ∷ ys) j (suc q) l e = snoc_keeps R same xs ys j q (omega arith) e

-- a common last end leaves the order
pub later_snoc : (xs ys : List ℕ) (j : ℕ) → length xs ≡ length ys → LaterCut xs ys → LaterCut (xs ++ (j ∷ [])) (ys ++ (j ∷ []))
later_snoc xs ys j l c =
    record {
      place = c.place;
      later = snoc_keeps (λ a b. a < b) (λ x h. absurd (omega arith)) xs ys j c.place l c.later;
      same_after = λ p h. snoc_keeps (λ a b. a ≡ b) (λ x e. refl) xs ys j p l (c.same_after p h);
    }

past_snoc : (xs : List ℕ) (a p : ℕ) → length xs < p → get_or (xs ++ (a ∷ [])) p 0 ≡ 0
past_snoc xs a p h = get_or-eq_default (xs ++ (a ∷ [])) 0 (rw length-append (omega arith))

later_last : (xs ys : List ℕ) (a b : ℕ) → length xs ≡ length ys → a < b → LaterCut (xs ++ (a ∷ [])) (ys ++ (b ∷ []))
later_last xs ys a b l h =
    record {
      place = length xs;
      later = omega (arith, get_or-append_seam xs a [] 0, subst (λ (p : ℕ). get_or (ys ++ (b ∷ [])) p 0 ≡ b) (sym l) (get_or-append_seam ys b [] 0));
      same_after = λ p g. past_snoc xs a p g ∙ sym (past_snoc ys b p (omega arith));
    }

-- of two divisions of a and of b readings into as many spans, the one of more readings cuts later
pub later_of : (k a b : ℕ) (xs ys : List ℕ) → Division k a xs → Division k b ys → a < b → LaterCut xs ys
later_of zero a b [] [] d e h = absurd (omega (arith, d.divides, e.divides))
later_of zero a b [] (y ∷ ys) d e h = absurd (omega (arith, e.many))
later_of zero a b (x ∷ xs) ys d e h = absurd (omega (arith, d.many))
later_of (suc k) a b xs ys d e h =
    let p = parted k a xs d in
    let q = parted k b ys e in
    rw (p.whole, q.whole) (later_last p.front q.front a b (p.divides.many ∙ sym q.divides.many) h)
