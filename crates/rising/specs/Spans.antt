-- What reads only its own span stays as readings come and go behind it.
use Rattle.std.specs.Prelude.{◌≡◌, ℕ, ◌-◌, ◌<◌, ◌≤◌, List, [], ◌∷◌, ◌++◌, length, take, Ok, Err, Result, slice_index}
use Rattle.std.proofs.Common.{ap, sym, ◌∙◌, arith}
use Rattle.std.proofs.lemmas.List.{get_or-take, length-take-le}
use Rattle.refusal.specs.declared.Refusal.{Refusal}
use Rattle.weighing.specs.Calls.{Leaves, Takes, Drops, KeepsLevels}
use Rattle.rising.specs.Rows.{rising_verdict, Pushes, Pops}
use Rattle.rising.specs.RowsLemmas.{push_length, push_old}

-- f of a span depends on the readings before the span's end alone
abbrev pub Local : (List ℕ → ℕ → ℕ → ℕ) → Type 0
Local f = (x y : List ℕ) (a b : ℕ) → a < b → ((i : ℕ) → i < b → slice_index y i ≡ slice_index x i) → f y a b ≡ f x a b

module _ {W : Type 0} (list : W → List ℕ) (f : List ℕ → ℕ → ℕ → ℕ) (reads : Local f) (s t : W) where
  pub push_keeps_spans : (reading : ℕ) → list t ≡ list s ++ reading ∷ [] → (a b : ℕ) → a < b → b ≤ length (list s) → f (list t) a b ≡ f (list s) a b
  push_keeps_spans reading is a b h l =
      rw is (reads (list s) (list s ++ reading ∷ []) a b h (λ i m. push_old (list s) reading i (omega arith)))

  pub pop_keeps_spans : (k : ℕ) → list t ≡ take k (list s) → (a b : ℕ) → a < b → b ≤ k → f (list t) a b ≡ f (list s) a b
  pop_keeps_spans k is a b h l = rw is (reads (list s) (take k (list s)) a b h (λ i m. get_or-take k (list s) i 0 (omega arith)))

-- a weighing that reads its weights and levels off the list of its readings does what a weighing must
module _ {W : Type 0} (list : W → List ℕ) (weight level : List ℕ → ℕ → ℕ → ℕ) (weight-local : Local weight) (level-local : Local level)
    (top count : W → ℕ) (s t : W) (top_same : top t ≡ top s) (count_same : count t ≡ count s) where
  still_levels : t ≡ s → KeepsLevels (λ w. length (list w)) (λ w. level (list w)) s t
  still_levels same = record { levels_same = λ a b h l m. ap (λ w. level (list w) a b) same }

  pub push_takes : (reading : ℕ) (r : Result ℕ Refusal) → Pushes list s t reading r →
      Takes (λ w. length (list w)) (λ w. weight (list w)) (λ w. rising_verdict (list w)) top count s t reading r
      × KeepsLevels (λ w. length (list w)) (λ w. level (list w)) s t
  push_takes reading (Ok n) p =
      let leaves : Leaves (λ w. length (list w)) (λ w. weight (list w)) top count n (count s) s t =
      record {
        holds = ap length p.2 ∙ push_length (list s) reading ∙ sym p.1;
        weights_same = λ a b h l m. push_keeps_spans list weight weight-local s t reading p.2 a b h l;
        top_same = top_same;
        counted = count_same;
      }
      in
      ((p.0, p.1, leaves), record { levels_same = λ a b h l m. push_keeps_spans list level level-local s t reading p.2 a b h l })
  push_takes reading (Err why) p = (p, still_levels p.1)

  pub pop_drops : (r : Result ℕ Refusal) → Pops list s t r →
      Drops (λ w. length (list w)) (λ w. weight (list w)) (λ w. rising_verdict (list w)) top count s t r
      × KeepsLevels (λ w. length (list w)) (λ w. level (list w)) s t
  pop_drops (Ok n) p =
      let fewer = length-take-le (length (list s) - 1) (list s) (omega arith) in
      let holds = ap length p.2 ∙ fewer in
      let leaves : Leaves (λ w. length (list w)) (λ w. weight (list w)) top count n (count s) s t =
      record {
        holds = holds ∙ sym p.1;
        weights_same = λ a b h l m. pop_keeps_spans list weight weight-local s t (length (list s) - 1) p.2 a b h (omega (arith, p.1));
        top_same = top_same;
        counted = count_same;
      }
      in
      ((p.0, p.1, leaves), record { levels_same = λ a b h l m. pop_keeps_spans list level level-local s t (length (list s) - 1) p.2 a b h (omega arith) })
  pop_drops (Err why) p = (p, still_levels p.1)
