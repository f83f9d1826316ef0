-- Rising readings stay rising, small and summed when an allowed one follows or the last ones go.
use Rattle.std.specs.Prelude.{◌≡◌, ℕ, ◌+◌, ◌-◌, ◌<◌, ◌≤◌, ◌≢◌, List, [], ◌∷◌, ◌++◌, length, take, slice_index, slice_index_or, slice_set, suc, refl}
use Rattle.std.proofs.Common.{ap, sym, ◌∙◌, ⊎_elim, add-one, arith}
use Rattle.std.proofs.lemmas.List.{length-append, get_or_append_left, get_or-append_right, length-take-le, get_or-take, get_or-set_same, get_or-set_other}
use Rattle.std.proofs.lemmas.Bool.{cases_lt}
use Rattle.std.proofs.lemmas.Bool.Decides.{nat_tests}
use Rattle.rising.specs.Sums.{sum_first}
use Rattle.rising.specs.Rows.{Small, Rising, Summed, last, rising_verdict}
use Rattle.rising.specs.SumsLemmas.{total_agrees}

pub sums_agree : (x y : List ℕ) (k : ℕ) → ((i : ℕ) → i < k → slice_index y i ≡ slice_index x i) → sum_first y k ≡ sum_first x k
sums_agree x y k same = total_agrees (λ i. slice_index y i) (λ i. slice_index x i) 0 k (λ i h l. same i (omega arith))

pub allowed : (x : List ℕ) (r : ℕ) → length x ≤ 512 → rising_verdict x r ≡ 0 → (length x < 512) × (r ≤ 65535) × (last x ≤ r)
allowed x r few h = (grind (arith, nat_tests), grind (arith, nat_tests), grind (arith, nat_tests))

module _ (x : List ℕ) (r : ℕ) where
  pub push_length : length (x ++ r ∷ []) ≡ length x + 1
  push_length = length-append x (r ∷ [])

  pub push_old : (i : ℕ) → i < length x → slice_index (x ++ r ∷ []) i ≡ slice_index x i
  push_old i h = get_or_append_left x (r ∷ []) 0 i h

  push_new : (i : ℕ) → length x ≤ i → i < length x + 1 → slice_index (x ++ r ∷ []) i ≡ r
  push_new i l h =
      let first : i - length x ≡ 0 = omega arith in
      get_or-append_right x (r ∷ []) (length x) i 0 refl l ∙ ap (λ k. slice_index (r ∷ []) k) first

  pub small_push : Small x → r ≤ 65535 → Small (x ++ r ∷ [])
  small_push small h i l =
      let long = push_length in
      ⊎_elim (λ old. rw (push_old i old) (small i old)) (λ new. rw (push_new i new (omega arith)) h) (cases_lt i (length x))

  pub rising_push : Rising x → last x ≤ r → Rising (x ++ r ∷ [])
  rising_push rising h i j ij l =
      let long = push_length in
      ⊎_elim
      (λ old. let before : i < length x = omega arith in rw (push_old i before, push_old j old) (rising i j ij old))
      (λ new. ⊎_elim
      (λ old. rw (push_old i old, push_new j new (omega arith)) (omega (arith, rising i (length x - 1) (omega arith) (omega arith))))
      (λ also. rw (push_new i also (omega arith), push_new j new (omega arith)) (omega arith))
      (cases_lt i (length x)))
      (cases_lt j (length x))

  pub summed_push : (sums : List ℕ) → length x + 1 < length sums → Summed x sums → Summed (x ++ r ∷ []) (slice_set sums (length x + 1) (slice_index sums (length x) + r))
  summed_push sums room summed i l =
      let long = push_length in
      let more = slice_index sums (length x) + r in
      ⊎_elim
      (λ old.
      let other : i ≢ length x + 1 = omega arith in
      get_or-set_other sums (length x + 1) i more 0 other ∙ summed i (omega arith) ∙ sym (sums_agree x (x ++ r ∷ []) i (λ k h. push_old k (omega arith))))
      (λ new.
      let at : i ≡ length x + 1 = omega arith in
      let top : slice_index_or (x ++ r ∷ []) (0 + length x) 0 ≡ r = push_new (0 + length x) (omega arith) (omega arith) in
      let here = get_or-set_same sums (length x + 1) more 0 room in
      let below = sums_agree x (x ++ r ∷ []) (length x) push_old in
      rw (at, here, add-one (length x)) (omega (arith, summed (length x) (omega arith))))
      (cases_lt i (length x + 1))

  pub summed_append : (sums : List ℕ) (more : ℕ) → length sums ≡ length x + 1 → more ≡ sum_first x (length x) + r → Summed x sums → Summed (x ++ r ∷ []) (sums ++ more ∷ [])
  summed_append sums more rooms is summed i l =
      let long = push_length in
      ⊎_elim
      (λ old. get_or_append_left sums (more ∷ []) 0 i (omega arith) ∙ summed i (omega arith) ∙ sym (sums_agree x (x ++ r ∷ []) i (λ k h. push_old k (omega arith))))
      (λ (new : length x + 1 ≤ i).
      let at : i ≡ length x + 1 = omega arith in
      let first : i - length sums ≡ 0 = omega arith in
      let top : slice_index_or (x ++ r ∷ []) (0 + length x) 0 ≡ r = push_new (0 + length x) (omega arith) (omega arith) in
      let here : slice_index (sums ++ more ∷ []) i ≡ more = get_or-append_right sums (more ∷ []) (length sums) i 0 refl (omega arith) ∙ ap (λ k. slice_index (more ∷ []) k) first in
      let below = sums_agree x (x ++ r ∷ []) (length x) push_old in
      here ∙ rw (at, add-one (length x)) (omega arith))
      (cases_lt i (length x + 1))

module _ (x : List ℕ) (k : ℕ) (within : k ≤ length x) where
  pub front_length : length (take k x) ≡ k
  front_length = length-take-le k x within

  pub small_front : Small x → Small (take k x)
  small_front small i l = let long = front_length in rw (get_or-take k x i 0 (omega arith)) (small i (omega arith))

  pub rising_front : Rising x → Rising (take k x)
  rising_front rising i j ij l =
      let long = front_length in
      rw (get_or-take k x i 0 (omega arith), get_or-take k x j 0 (omega arith)) (rising i j ij (omega arith))

  pub summed_take : (sums : List ℕ) → Summed x sums → Summed (take k x) (take (suc k) sums)
  summed_take sums summed i l =
      let long = front_length in
      get_or-take (suc k) sums i 0 (omega arith) ∙ summed i (omega arith) ∙ sym (sums_agree x (take k x) i (λ j h. get_or-take k x j 0 (omega arith)))

  pub summed_front : (sums : List ℕ) → Summed x sums → Summed (take k x) sums
  summed_front sums summed i l =
      let long = front_length in
      summed i (omega arith) ∙ sym (sums_agree x (take k x) i (λ j h. get_or-take k x j 0 (omega arith)))
