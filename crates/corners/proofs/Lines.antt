-- A line has one reading: a number holds no space, so the first space parts the two numbers.
use Rattle.std.proofs.Common.{◌≡◌, ℕ, zero, suc, ◌+◌, ◌<◌, Bool, true, false, cond, eqb, List, [], ◌∷◌, ◌++◌, length, get_or, drop, ℤ, Some, sym, refl, ap, ◌∙◌, subst, arith, length-append, Bor, eqb-true}
use Rattle.std.specs.Str.Parse.{AllDigits}
use Rattle.std.proofs.lemmas.Str.Parse.{digit_at}
use Rattle.std.proofs.lemmas.Str.Pattern.{IsSplitOnceResult, split_after, split_parts}
use Rattle.std.proofs.Math.Seq.{get_or-append_seam}
use Rattle.hull.specs.declared.corner.Corner.{Corner}
use Rattle.corners.specs.Lines.{Writes, Written, SomeCorner}

abbrev NoSpace : List ℕ → Type 0
NoSpace text = (i : ℕ) → i < length text → get_or text i 0 ≡ 32 → ⊥

digits_no_space : (ds : List ℕ) → AllDigits 10 ds → NoSpace ds
digits_no_space ds h i l e = let d = digit_at ds i h l in omega arith

cons_no_space : (c : ℕ) (cs : List ℕ) → (c ≡ 32 → ⊥) → NoSpace cs → NoSpace (c ∷ cs)
cons_no_space c cs h f zero l e = h e
cons_no_space c cs h f (suc i) l e = f i (omega arith) e

by_sign : (c : ℕ) (cs : List ℕ) (minus plus : Bool) → eqb c 45 ≡ minus → eqb c 43 ≡ plus → AllDigits 10 (cond minus (drop 1 (c ∷ cs)) (drop (cond plus 1 0) (c ∷ cs))) → NoSpace (c ∷ cs)
by_sign c cs true plus m p h = cons_no_space c cs (λ e. let is : c ≡ 45 = eqb-true c 45 m in omega arith) (digits_no_space cs h)
by_sign c cs false true m p h = cons_no_space c cs (λ e. let is : c ≡ 43 = eqb-true c 43 p in omega arith) (digits_no_space cs h)
by_sign c cs false false m p h = digits_no_space (c ∷ cs) h

number_no_space : (text : List ℕ) (z : ℤ) → Writes text z → NoSpace text
number_no_space [] z w i l e = omega arith
number_no_space (c ∷ cs) z w i l e = by_sign c cs (eqb c 45) (eqb c 43) refl refl w.digits.1 i l e

-- a line without a space writes no corner
pub no_space_no_corner : (line : List ℕ) → NoSpace line → SomeCorner line → ⊥
no_space_no_corner line none (c, w) =
    let size : length (w.x_text ++ (32 ∷ w.y_text)) ≡ length w.x_text + length (32 ∷ w.y_text) = length-append w.x_text (32 ∷ w.y_text) in
    let whole : length line ≡ length (w.x_text ++ (32 ∷ w.y_text)) = ap length w.one_space in
    none (length w.x_text) (omega arith) (ap (λ text. get_or text (length w.x_text) 0) w.one_space ∙ get_or-append_seam w.x_text 32 w.y_text 0)

-- the parts at the first space are the two numbers of any corner that the line writes
pub parts_are_numbers : (line : List ℕ) (x y : Bor (List ℕ)) → IsSplitOnceResult 32 line (Some (x, y)) → (c : Corner) → Written line c → Writes x.now c.x × Writes y.now c.y
parts_are_numbers line x y split c w =
    let same = split_after 32 line w.x_text w.y_text (Some (x, y)) split (omega arith) w.one_space (number_no_space w.x_text c.x w.x_is) in (
      subst (λ text. Writes text c.x) (sym same.0) w.x_is,
      subst (λ text. Writes text c.y) (sym same.1) w.y_is,
    )

pub parts_written : (line : List ℕ) (x y : Bor (List ℕ)) → IsSplitOnceResult 32 line (Some (x, y)) → (c : Corner) → Writes x.now c.x → Writes y.now c.y → Written line c
parts_written line x y split c wx wy =
    record { x_text = x.now; y_text = y.now; one_space = (split_parts 32 line (Some (x, y)) split (omega arith)).0; x_is = wx; y_is = wy }
