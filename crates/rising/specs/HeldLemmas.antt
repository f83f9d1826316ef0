-- The list of readings held, as the entries have it.
use Rattle.std.specs.Prelude.{◌≡◌, ℕ, ◌+◌, ◌-◌, ◌*◌, ◌<◌, ◌≤◌, List, [], ◌∷◌, ◌++◌, length, take, drop, slice_index, slice_set}
use Rattle.std.proofs.Common.{sym, ap, ◌∙◌, subst, mul-le-mul, arith}
use Rattle.std.proofs.lemmas.List.{length-map, map-append, map-set, take-map, length-take-le, length-drop, drop-set-add, get_or-take, get_or_past, take-take, take_more_set}
use Rattle.rising.specs.declared.readings.Entry.{Entry}
use Rattle.rising.specs.declared.readings.Readings.{Readings}
use Rattle.rising.specs.Entries.{taken, sums}
use Rattle.rising.specs.Held.{entries_of, readings}
use Rattle.rising.specs.Rows.{Small, Rising, Summed, last, rising_verdict}
use Rattle.rising.specs.Sums.{sum_first}
use Rattle.rising.specs.SumsLemmas.{total_bounded}
use Rattle.rising.specs.RowsLemmas.{allowed, small_push, rising_push, summed_push, small_front, rising_front, summed_front}

-- as many entries may be held as there may be readings
behind_first : (r : Readings) → length (drop 1 r.entries) ≡ 512
behind_first r = omega (arith, length-drop 1 r.entries, r.room)

pub held_length : (r : Readings) → length (readings r) ≡ r.n
held_length r = omega (arith, length-map (entries_of r) (λ e. e.reading), length-take-le r.n (drop 1 r.entries) (omega (arith, r.few, behind_first r)))

pub held_few : (r : Readings) → length (readings r) ≤ 512
held_few r = omega (arith, held_length r, r.few)

pub held_small : (r : Readings) → Small (readings r)
held_small r = r.small

pub held_rising : (r : Readings) → Rising (readings r)
held_rising r = r.rising

pub held_at : (r : Readings) (i : ℕ) → i < r.n → slice_index (readings r) i ≡ slice_index (taken (drop 1 r.entries)) i
held_at r i h = ap (λ x. slice_index x i) (sym (take-map (λ e. e.reading) r.n (drop 1 r.entries))) ∙ get_or-take r.n (taken (drop 1 r.entries)) i 0 h

pub held_sum : (r : Readings) (k : ℕ) → k ≤ r.n → slice_index (sums r.entries) k ≡ sum_first (readings r) k
held_sum r k h = r.summed k (omega (arith, held_length r))

pub last_held : (r : Readings) → 0 < r.n → last (readings r) ≡ slice_index (taken (drop 1 r.entries)) (r.n - 1)
last_held r some = ap (λ k. slice_index (readings r) (k - 1)) (held_length r) ∙ held_at r (r.n - 1) (omega arith)

pub last_none : (r : Readings) → r.n ≡ 0 → last (readings r) ≡ 0
last_none r none = get_or_past (readings r) _ 0 (omega (arith, held_length r))

-- so few small readings have a small sum
pub sums_small : (r : Readings) (k : ℕ) → k ≤ length (readings r) → sum_first (readings r) k ≤ k * 65535
sums_small r k h = total_bounded (λ i. slice_index (readings r) i) 65535 0 k (λ i l m. held_small r i (omega arith))

pub times_reading : (r : Readings) (k i v : ℕ) → v ≡ slice_index (readings r) i → k ≤ 512 → i < length (readings r) → k * v ≤ 33553920
times_reading r k i v is h l = let small : v ≤ 65535 = omega (arith, held_small r i l) in mul-le-mul h small

-- what holds of the first entries behind the very first, and of all sums
abbrev Kept : ℕ → List Entry → Type 0
Kept k entries = Small (taken (take k (drop 1 entries))) × Rising (taken (take k (drop 1 entries))) × Summed (taken (take k (drop 1 entries))) (sums entries)

module _ (r : Readings) where
  module _ (reading sum : ℕ) (told : rising_verdict (readings r) reading ≡ 0) where
    -- the entries once one more is written
    abbrev more : List Entry
    more = slice_set r.entries (r.n + 1) (record { reading = reading; sum = sum })

    more_is : take (r.n + 1) (drop 1 more) ≡ entries_of r ++ record { reading = reading; sum = sum } ∷ []
    more_is =
        let ok = allowed (readings r) reading (held_few r) told in
        ap (λ (k : ℕ). take (r.n + 1) (drop 1 (slice_set r.entries k (record { reading = reading; sum = sum })))) (omega arith)
        ∙ ap (take (r.n + 1)) (drop-set-add 1 r.entries r.n (record { reading = reading; sum = sum }))
        ∙ take_more_set (drop 1 r.entries) r.n (record { reading = reading; sum = sum }) (omega (arith, behind_first r, held_length r))

    pub push_is : taken (take (r.n + 1) (drop 1 more)) ≡ readings r ++ reading ∷ []
    push_is = rw more_is (map-append (λ e. e.reading) (entries_of r) (record { reading = reading; sum = sum } ∷ []))

    -- what holds of the entries holds of them with an allowed one behind them
    pub push_kept : sum ≡ sum_first (readings r) (length (readings r)) + reading → Kept (r.n + 1) more
    push_kept total =
        let x = readings r in
        let ok = allowed x reading (held_few r) told in
        let many = held_length r in
        let room : length x + 1 < length (sums r.entries) = omega (arith, r.room, length-map r.entries (λ e. e.sum)) in
        let at_end : Summed (x ++ reading ∷ []) (slice_set (sums r.entries) (r.n + 1) (slice_index (sums r.entries) r.n + reading)) =
        subst (λ (n : ℕ). Summed (x ++ reading ∷ []) (slice_set (sums r.entries) (n + 1) (slice_index (sums r.entries) n + reading))) many (summed_push x reading (sums r.entries) room r.summed) in
        let is_sum : slice_index (sums r.entries) r.n + reading ≡ sum = omega (arith, held_sum r r.n (omega arith), ap (sum_first x) many) in
        let summed : Summed (x ++ reading ∷ []) (slice_set (sums r.entries) (r.n + 1) sum) =
        subst (λ (s : ℕ). Summed (x ++ reading ∷ []) (slice_set (sums r.entries) (r.n + 1) s)) is_sum at_end in
        rw (push_is, map-set (λ e. e.sum) r.entries (r.n + 1) (record { reading = reading; sum = sum }))
        (small_push x reading r.small ok.1, rising_push x reading r.rising ok.2, summed)

  module _ (reading : ℕ) (told : rising_verdict (readings r) reading ≡ 0) where
    pub room_left : r.n < 512
    room_left = omega (arith, (allowed (readings r) reading (held_few r) told).0, held_length r)

    pub sum_fits : slice_index (sums r.entries) r.n + reading ≤ 33553920
    sum_fits =
        let ok = allowed (readings r) reading (held_few r) told in
        omega (arith, held_sum r r.n (omega arith), sums_small r r.n (omega (arith, held_length r)), room_left)

  module _ (k : ℕ) (within : k ≤ r.n) where
    pub front_is : taken (take k (drop 1 r.entries)) ≡ take k (readings r)
    front_is = ap taken (sym (take-take k r.n (drop 1 r.entries) within)) ∙ sym (take-map (λ e. e.reading) k (entries_of r))

    -- and of the first k of them
    pub front_kept : Kept k r.entries
    front_kept =
        let x = readings r in
        let fewer : k ≤ length x = omega (arith, held_length r) in
        rw front_is (small_front x k fewer r.small, rising_front x k fewer r.rising, summed_front x k fewer (sums r.entries) r.summed)
