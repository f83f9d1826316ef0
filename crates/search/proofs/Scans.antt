-- The rows between two rows whose answers are known: a scan from the one to the other finds theirs.
use Rattle.std.proofs.Common.{◌≡◌, ℕ, ◌+◌, ◌-◌, ◌*◌, ◌/◌, ◌%◌, min, ◌<◌, ◌≤◌, true, false, List, length, get_or, take, drop, set, sym, ap, ◌∙◌, subst, ⊎_elim, arith, get_or-set_other, get_or-set_same, get_or-take, get_or-drop, length-drop, length-take-le}
use Rattle.std.proofs.lemmas.Bool.{cases_lt}
use Rattle.search.specs.Least.{Leftmost}
use Rattle.search.specs.Grid.{Grid, Answer, Holds}
use Rattle.search.specs.Levels.{nth}
use Rattle.search.specs.Steps.{Reaches}
use Rattle.search.proofs.Least.{leftmost_unique}
use Rattle.search.proofs.Grid.{Lawful, some_answer, answers_rise}
use Rattle.search.proofs.Kept.{rises, not_falling, place_le, place_lt}
use Rattle.search.proofs.Rows.{row_in, set_other_row}

module _ {E : Type 0} {G : Grid E} {st : ℕ → ℕ} {count : ℕ} (h : Holds G st count) where
  -- the best of the places that can hold a row's answer holds it
  found : (i c first last end best : ℕ) → i < G.rows → Answer G i c → first ≤ end → end < count → st first ≤ c → c ≤ last → (end + 1 < count → last ≤ st end) → Leftmost G.before (λ j. G.entry i (st j)) first (end + 1 - first) best → st best ≡ c
  found i c first last end best lt a fe ec lo hi stop l =
      let w = h.kept i c lt a in
      let j : ℕ = w.0 in
      let jc : j < count = w.1 in
      let je : st j ≡ c = w.2 in
      let fj : first ≤ j = place_le st count h.rising first j (omega arith) jc (omega arith) in
      let jl : j ≤ end = ⊎_elim (λ (x : end + 1 < count). let s = stop x in place_le st count h.rising j end jc ec (omega arith)) (λ (y : count ≤ end + 1). omega arith) (cases_lt (end + 1) count) in
      let here : Leftmost G.before (λ k. G.entry i (st k)) first (end + 1 - first) j = record {
        low = fj;
        high = omega arith;
        least = λ k x y. let kc : k < count = omega arith in let col = h.within k kc in subst (λ z. G.before (G.entry i (st k)) (G.entry i z) ≡ false) (sym je) (a.least (st k) col.low col.high);
        leftmost = λ k x y. let up = rises st count h.rising k j y jc in subst (λ z. G.before (G.entry i z) (G.entry i (st k)) ≡ true) (sym je) (a.leftmost (st k) (h.within k (omega arith)).low (omega arith));
      } in
      ap st (leftmost_unique l here) ∙ je

  -- the place where a scan ended is not past the answer that it looked for
  ended : (i c first end : ℕ) → i < G.rows → Answer G i c → first ≤ end → end < count → st first ≤ c → (first < end → st (end - 1) < c) → st end ≤ c
  ended i c first end lt a fe ec lo gap =
      let w = h.kept i c lt a in
      let jc = w.1 in
      let je = w.2 in
      ⊎_elim
      (λ (l : first < end).
      let g = gap l in
      let past : end - 1 < w.0 = place_lt st count h.rising (end - 1) w.0 (omega arith) jc (omega arith) in
      let r = not_falling st count h.rising end w.0 (omega arith) jc in
      omega arith)
      (λ (e : end ≤ first). let z : first ≡ end = omega arith in let zz = ap st z in omega arith)
      (cases_lt first end)

-- the answers of the odd rows of a grid of stride `stride`
abbrev pub OddRows : {E : Type 0} → Grid E → ℕ → List ℕ → Type 0
OddRows G stride ans = (j : ℕ) → 2 * j + 1 < G.rows → Answer G (2 * j + 1) (get_or ans ((2 * j + 1 + 1) * stride - 1) 0)

-- and of the first p even ones
abbrev pub EvenRows : {E : Type 0} → Grid E → ℕ → List ℕ → ℕ → Type 0
EvenRows G stride ans p = (j : ℕ) → j < p → Answer G (2 * j) (get_or ans ((2 * j + 1) * stride - 1) 0)

-- no answer from row 2p on stands to the left of place `place`
abbrev pub Starts : {E : Type 0} → Grid E → (ℕ → ℕ) → ℕ → ℕ → Type 0
Starts G st p place = (i c : ℕ) → 2 * p ≤ i → i < G.rows → Answer G i c → st place ≤ c

-- One turn of the scans of a level: row 2p lies between rows 2p - 1 and 2p + 1, whose answers stand in `ans`.
module _ {E : Type 0} {G : Grid E} (lawful : Lawful G) {st : ℕ → ℕ} {count : ℕ} (holds : Holds G st count) (stride : ℕ) (pos : 0 < stride) where
  module _ (ans : List ℕ) (p place last c end : ℕ) (lt : 2 * p < G.rows) (room : G.rows * stride ≤ length ans)
      (odds : OddRows G stride ans) (starts : Starts G st p place) (fe : place ≤ end) (ec : end < count)
      (stop : end + 1 < count → last ≤ st end) (gap : place < end → st (end - 1) < last)
      (least : (best : ℕ) × (c ≡ st best) × Leftmost G.before (λ j. G.entry (2 * p) (st j)) place (end + 1 - place) best)
      (next : 2 * p + 1 < G.rows → last ≡ get_or ans ((2 * p + 1 + 1) * stride - 1) 0)
      (final : G.rows ≤ 2 * p + 1 → last ≡ st (count - 1)) where
    answer_reached : (k : ℕ) → Answer G (2 * p) k → k ≤ last
    answer_reached k a = ⊎_elim
        (λ (x : 2 * p + 1 < G.rows). let e = next x in let r = answers_rise lawful (2 * p) (2 * p + 1) k (get_or ans ((2 * p + 1 + 1) * stride - 1) 0) (omega arith) x a (odds p x) in omega arith)
        (λ (y : G.rows ≤ 2 * p + 1).
        let e = final y in
        let w = holds.kept (2 * p) k lt a in
        let wl = w.1 in
        let we = w.2 in
        let r = not_falling st count holds.rising w.0 (count - 1) (omega arith) (omega arith) in
        omega arith)
        (cases_lt (2 * p + 1) G.rows)

    scan_finds : Answer G (2 * p) c
    scan_finds =
        let w = holds.within end ec in
        let low = w.low in
        let high = w.high in
        let a = some_answer lawful (2 * p) (omega arith) in
        let e = found holds (2 * p) a.0 place last end least.0 lt a.1 fe ec (starts (2 * p) a.0 (omega arith) lt a.1) (answer_reached a.0 a.1) stop least.2 in
        subst (Answer G (2 * p)) (sym (least.1 ∙ e)) a.1

    starts_next : Starts G st (p + 1) end
    starts_next i k le il a =
        let x : 2 * p + 1 < G.rows = omega arith in
        let known : ℕ = get_or ans ((2 * p + 1 + 1) * stride - 1) 0 in
        let g : place < end → st (end - 1) < known = subst (λ z. place < end → st (end - 1) < z) (next x) gap in
        let r = ended holds (2 * p + 1) known place end x (odds p x) fe ec (starts (2 * p + 1) known (omega arith) x (odds p x)) g in
        let q = answers_rise lawful (2 * p + 1) i known k (omega arith) il (odds p x) a in
        omega arith

    even_rows_next : EvenRows G stride ans p → EvenRows G stride (set ans ((2 * p + 1) * stride - 1) c) (p + 1)
    even_rows_next evens j l = ⊎_elim
        (λ (a : j < p). subst (λ x. Answer G (2 * j) x) (sym (set_other_row ans (2 * p) (2 * j) stride c pos (λ e. omega arith))) (evens j a))
        (λ (ge : p ≤ j).
        let e : p ≡ j = omega arith in
        let r = row_in (2 * p) G.rows stride pos lt in
        subst (λ k. Answer G (2 * k) (get_or (set ans ((2 * p + 1) * stride - 1) c) ((2 * k + 1) * stride - 1) 0)) e (subst (λ x. Answer G (2 * p) x) (sym (get_or-set_same ans ((2 * p + 1) * stride - 1) c 0 (omega arith))) scan_finds))
        (cases_lt j p)

    odd_rows_next : OddRows G stride (set ans ((2 * p + 1) * stride - 1) c)
    odd_rows_next j l = subst (λ x. Answer G (2 * j + 1) x) (sym (set_other_row ans (2 * p) (2 * j + 1) stride c pos (λ e. omega arith))) (odds j l)

    beyond_next : (old : List ℕ) → ((j : ℕ) → G.rows * stride ≤ j → get_or ans j 0 ≡ get_or old j 0) → (j : ℕ) → G.rows * stride ≤ j → get_or (set ans ((2 * p + 1) * stride - 1) c) j 0 ≡ get_or old j 0
    beyond_next old same j l =
        let r = row_in (2 * p) G.rows stride pos lt in
        get_or-set_other ans ((2 * p + 1) * stride - 1) j c 0 (λ e. omega arith) ∙ same j l

    pub turn : (old : List ℕ) → EvenRows G stride ans p → ((j : ℕ) → G.rows * stride ≤ j → get_or ans j 0 ≡ get_or old j 0) → let new : List ℕ = set ans ((2 * p + 1) * stride - 1) c in EvenRows G stride new (p + 1) × OddRows G stride new × Starts G st (p + 1) end × ((j : ℕ) → G.rows * stride ≤ j → get_or new j 0 ≡ get_or old j 0)
    turn old evens same = (even_rows_next evens, odd_rows_next, starts_next, beyond_next old same)

  -- the even and the odd rows are all
  pub all_rows : (ans : List ℕ) (p : ℕ) → G.rows ≤ 2 * p → EvenRows G stride ans p → OddRows G stride ans → (i : ℕ) → i < G.rows → Answer G i (get_or ans ((i + 1) * stride - 1) 0)
  all_rows ans p enough evens odds i l = ⊎_elim
      (λ (a : 2 * (i / 2) < i). let e : 2 * (i / 2) + 1 ≡ i = omega arith in subst (λ k. Answer G k (get_or ans ((k + 1) * stride - 1) 0)) e (odds (i / 2) (omega arith)))
      (λ (c : i ≤ 2 * (i / 2)). let e : 2 * (i / 2) ≡ i = omega arith in subst (λ k. Answer G k (get_or ans ((k + 1) * stride - 1) 0)) e (evens (i / 2) (omega arith)))
      (cases_lt (2 * (i / 2)) i)

-- half of a level's rows, and one more where a row is left
pub half_up : (rows p : ℕ) → p < rows / 2 + min 1 (rows % 2) → 2 * p < rows
half_up rows p l = omega arith

pub half_done : (rows p : ℕ) → p ≤ rows / 2 + min 1 (rows % 2) → p ≤ rows - rows / 2
half_done rows p l = omega arith

pub all_done : (rows p : ℕ) → rows / 2 + min 1 (rows % 2) ≤ p → rows ≤ 2 * p
all_done rows p l = omega arith

-- the columns from `place` on, and what was reached among them, said of all columns
module _ (kept : List ℕ) (place : ℕ) (l : place < length kept) where
  abbrev pub tail : List ℕ
  tail = take (length kept - place) (drop place kept)

  pub length-tail : length tail ≡ length kept - place
  length-tail = let n = length-drop place kept in let t = length-take-le (length kept - place) (drop place kept) (omega arith) in omega arith

  pub in_tail : (j : ℕ) → place + j < length kept → nth tail j ≡ nth kept (place + j)
  in_tail j h = get_or-take (length kept - place) (drop place kept) j 0 (omega arith) ∙ get_or-drop place kept j 0

  pub reached : (last end : ℕ) → Reaches tail last end → (place + end < length kept) × (place + end + 1 < length kept → last ≤ nth kept (place + end)) × (place < place + end → nth kept (place + end - 1) < last)
  reached last end r =
      let n = length-tail in
      let high = r.high in (
        omega arith,
        λ x. let s = r.stop (omega arith) in let e = in_tail end (omega arith) in omega arith,
        λ x. let g = r.gap (end - 1) (omega arith) in let e = in_tail (end - 1) (omega arith) in let k : place + (end - 1) ≡ place + end - 1 = omega arith in subst (λ j. nth kept j < last) k (omega arith),
      )

  -- the columns up to that one
  pub length-run : (end : ℕ) → place + end < length kept → length (take (end + 1) tail) ≡ end + 1
  length-run end h = let n = length-tail in length-take-le (end + 1) tail (omega arith)

  pub in_run : (end j : ℕ) → place + end < length kept → j < end + 1 → nth (take (end + 1) tail) j ≡ nth kept (place + j)
  in_run end j h x = get_or-take (end + 1) tail j 0 x ∙ in_tail j (omega arith)
