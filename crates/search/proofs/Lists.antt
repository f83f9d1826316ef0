-- The columns that a list or an iterator gives, and a stack in a level's room.
use Rattle.std.proofs.Common.{◌≡◌, ℕ, ◌+◌, ◌-◌, ◌<◌, false, List, [], ◌∷◌, ◌++◌, length, get_or, set, refl, sym, subst, ap, ◌∙◌, arith, map-id, get_or-set_other, get_or-set_same, length-append}
use Rattle.std.proofs.Math.Seq.{get_or-append_seam}
use Rattle.std.proofs.Math.ListN.{get_or-append}
use Rattle.std.proofs.iter.Yields.{gives_left, gives_Drains}
use Rattle.std.specs.Iterator.{AlwaysYields, Yields, Drains}
use Rattle.std.specs.declared.option.Option.{Option}
use Rattle.std.specs.List.{range_with_len}
use Rattle.std.proofs.lemmas.List.FromFn.{length-range_with_len, get_or-range_with_len}
use Rattle.search.specs.Grid.{Grid, Column, Stack, Holds, Keeps}
use Rattle.search.specs.Levels.{nth}
use Rattle.search.proofs.Grid.{Lawful, push, stack_holds, keeps_moved, holds_some}

-- the next column is written on top of the stack
pub pushed : {E : Type 0} {G : Grid E} (lawful : Lawful G) (xs : List ℕ) (t x : ℕ) → Stack G (nth xs) t x → Column G x → t < G.rows → t < length xs → (0 < t → G.before (G.entry (t - 1) x) (G.entry (t - 1) (nth xs (t - 1))) ≡ false) → Stack G (nth (set xs t x)) (t + 1) (x + 1)
pushed lawful xs t x s col lt room lost =
    push lawful (nth xs) t x s col lt lost (nth (set xs t x))
    (λ j l. get_or-set_other xs t j x 0 (λ e. omega arith))
    (get_or-set_same xs t x 0 room)

-- all columns that a grid looks at
pub all_columns : {E : Type 0} (G : Grid E) (end : ℕ) → end ≡ G.first + G.columns → let all : List ℕ = range_with_len G.first (end - G.first) in Holds G (nth all) (length all) × (length all ≡ G.columns)
all_columns G end e =
    let n = length-range_with_len G.first (end - G.first) in
    let is : (j : ℕ) → j < G.columns → nth (range_with_len G.first (end - G.first)) j ≡ G.first + j = λ j l. get_or-range_with_len G.first (end - G.first) j 0 (omega arith) in (
      record {
        rising = λ j l. let a = is j (omega arith) in let b = is (j + 1) (omega arith) in omega arith;
        within = λ j l. let a = is j (omega arith) in record { low = omega arith; high = omega arith };
        kept = λ i c l a. let low = a.low in let high = a.high in let x = is (c - G.first) (omega arith) in (c - G.first, omega arith, omega arith);
      },
      omega arith,
    )

-- the number of the columns is written behind their room
pub counted : {E : Type 0} {G : Grid E} (lawful : Lawful G) (xs : List ℕ) (len : ℕ) → 0 < G.rows → 0 < G.columns → G.rows < length xs → Stack G (nth xs) len (G.first + G.columns) → Keeps G (nth (set xs G.rows len)) (nth (set xs G.rows len) G.rows)
counted {G = G} lawful xs len rows columns room stack =
    let holds = stack_holds G (nth xs) len stack in
    let kept : Keeps G (nth xs) len = record { holds = holds; few = stack.fits; some = holds_some lawful (nth xs) len rows columns holds } in
    let fits = stack.fits in
    subst (Keeps G (nth (set xs G.rows len))) (sym (get_or-set_same xs G.rows len 0 room)) (keeps_moved (λ j l. get_or-set_other xs G.rows j len 0 (λ e. omega arith)) kept)

module _ {S : Type 0} (steps : S → Option ℕ → S → Type 0) (s : S) (all : List ℕ) (gives : AlwaysYields steps (λ c. c) s all) where
  -- the item behind those that were given is the list's
  pub given_next : (seen : List ℕ) (x : ℕ) (t : S) → Yields steps s (seen ++ x ∷ []) t → (length seen < length all) × (nth all (length seen) ≡ x)
  given_next seen x t y =
      let left = gives_left steps (λ c. c) (seen ++ x ∷ []) all s t gives y in
      let whole : all ≡ (seen ++ x ∷ []) ++ left.0 = left.1 ∙ ap (λ l. l ++ left.0) (map-id (seen ++ x ∷ [])) in
      let n = length-append (seen ++ x ∷ []) left.0 in
      let k = length-append seen (x ∷ []) in
      let one : length (x ∷ []) ≡ 1 = refl in
      let long = ap length whole in (
        omega arith,
        ap (λ l. get_or l (length seen) 0) whole ∙ get_or-append (seen ++ x ∷ []) left.0 0 (length seen) (omega arith) ∙ get_or-append_seam seen x [] 0,
      )

  -- at the end all were given
  pub given_all : (seen : List ℕ) → Drains steps s seen → length seen ≡ length all
  given_all seen d = ap length (sym (map-id seen) ∙ gives_Drains steps (λ c. c) seen all s gives d)
