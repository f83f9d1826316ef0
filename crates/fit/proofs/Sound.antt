-- Each call keeps the tallies of the settled readings right.
use Rattle.std.proofs.Common.{◌≡◌, ℕ, ◌-◌, ◌^◌, ◌<◌, ◌≤◌, min, List, Ok, Err, Result, sym, refl, ap, subst, inl, inr, arith}
use Rattle.weighing.specs.declared.weighing.Weighing.{Ghosts}
use Rattle.weighing.specs.Calls.{Leaves}
use Rattle.weighing.specs.Did.{LevelsKept}
use Rattle.division.specs.Tables.{Right, tally_at, cut_at}
use Rattle.division.specs.declared.table.Told.{Told}
use Rattle.division.specs.Costs.{number_or_zero}
use Rattle.division.specs.Divisions.{Least}
use Rattle.division.specs.Divide.{Spans, Refused, TableDivided, Divided}
use Rattle.division.proofs.Divide.{exact_least}
use Rattle.refusal.specs.declared.Refusal.{Refusal}
use Rattle.refusal.specs.Numbers.{number}
use Rattle.division.proofs.Fillings.{fillings_stand, tables_stay}
use Rattle.fit.specs.declared.fit.Fit.{Fit}
use Rattle.fit.specs.Filling.{RoundsDone}
use Rattle.fit.specs.Calls.{Sound, Shifts, Settled, Allowed, DivideDid, size, weighing_of, table_of}

module _ {W : Type 0} (m : Ghosts W) where
  -- spans that are held before and after weigh the same, so the tallies below the mark stay right
  shift_sound : {f f' : Fit W} {n c : ℕ} → Leaves m.held m.weight m.top m.count n c (weighing_of f) (weighing_of f') → table_of f' ≡ table_of f → f'.limit ≡ f.limit → f'.mark ≡ min f.mark n → Sound m f → Sound m f'
  shift_sound {f} {f'} {n} leaves table limit mark sound =
      let holds = leaves.holds in
      let marked = sound.marked in
      let low : min f.mark n ≤ f.mark = omega arith in
      let kept = tables_stay (m.weight (weighing_of f)) (m.weight (weighing_of f')) (table_of f) (table_of f') f.limit (min f.mark n) f.mark low (λ a b l h. sym (leaves.weights_same a b l (omega arith) (omega arith))) (λ k j a b. (ap (λ t. tally_at t k j) table, ap (λ t. cut_at t k j) table)) sound.right in
      record {
        marked = omega arith;
        right = subst (λ x. Right (m.weight (weighing_of f')) (table_of f') x f'.mark) (sym limit) (subst (λ x. Right (m.weight (weighing_of f')) (table_of f') f.limit x) (sym mark) kept);
      }

  pub shifts : {f f' : Fit W} {n c : ℕ} → Leaves m.held m.weight m.top m.count n c (weighing_of f) (weighing_of f') → LevelsKept m (weighing_of f) (weighing_of f') → table_of f' ≡ table_of f → f'.limit ≡ f.limit → f'.mark ≡ min f.mark n → Shifts m f f' n
  shifts leaves levels table limit mark = record { mark_is = mark; limit_same = limit; levels = levels; sound = shift_sound leaves table limit mark }

  -- the rounds filled the cells of the unsettled readings, so all tallies are right
  settle_sound : {f f' : Fit W} {answers answers' work work' : List ℕ} → ((w : W) (a b : ℕ) → a < b → b ≤ m.held w → m.weight w a b ≤ 2 ^ 59 - 1) → RoundsDone m f.rounds f'.rounds f.limit f.mark answers answers' work work' → f'.limit ≡ f.limit → f'.mark ≡ size m f → f.mark ≤ size m f → Sound m f → Sound m f'
  settle_sound {f} {f'} light done limit mark below sound =
      let same = done.weighed.same in
      let hold = same.held_same in
      let weight : ℕ → ℕ → ℕ = m.weight (weighing_of f) in
      let old = tables_stay weight weight (table_of f) (table_of f') f.limit f.mark f.mark (omega arith) (λ a b l h. refl) (λ k j a b. done.settled_kept k j b) sound.right in
      let new = fillings_stand weight (table_of f') f.limit f.mark (size m f) f.limited.1 (light (weighing_of f)) old (λ k j a. done.filled k j (omega arith)) in
      let there = tables_stay weight (m.weight (weighing_of f')) (table_of f') (table_of f') f.limit (size m f) (size m f) (omega arith) (λ a b l h. sym (same.weights_same a b l h)) (λ k j a b. (refl, refl)) new in
      record {
        marked = omega arith;
        right = subst (λ x. Right (m.weight (weighing_of f')) (table_of f') x f'.mark) (sym limit) (subst (λ x. Right (m.weight (weighing_of f')) (table_of f') f.limit x) (sym mark) there);
      }

  pub settled_all : {f f' : Fit W} {told : ℕ} {answers answers' work work' : List ℕ} → ((w : W) (a b : ℕ) → a < b → b ≤ m.held w → m.weight w a b ≤ 2 ^ 59 - 1) → RoundsDone m f.rounds f'.rounds f.limit f.mark answers answers' work work' → f'.limit ≡ f.limit → f'.mark ≡ size m f → f.mark < size m f → told ≡ m.count (weighing_of f') - m.count (weighing_of f) → Settled m f f' answers answers' work work' told
  settled_all light done limit mark some told =
      let risen = done.weighed.same.count_risen in
      let few = done.weighed.few in
      record {
        mark_is = mark;
        limit_same = limit;
        weighing_same = done.weighed.same;
        counted = omega arith;
        few = omega arith;
        idle = λ e. absurd (omega arith);
        answers_kept = done.answers_kept;
        work_kept = done.work_kept;
        sound = settle_sound light done limit mark (omega arith);
      }

  -- all readings are settled: the table is right for them
  right_for_all : {f : Fit W} → size m f ≤ f.mark → Sound m f → Right (m.weight (weighing_of f)) (table_of f) f.limit (size m f)
  right_for_all {f} all sound = let marked = sound.marked in let e : f.mark ≡ size m f = omega arith in subst (λ n. Right (m.weight (weighing_of f)) (table_of f) f.limit n) e sound.right

  -- where the other rules are kept, only the list can be too short
  only_room : {n k : ℕ} {room : Type 0} (why : Refusal) → 0 < n → n ≤ 512 → Spans k → Refused n k room why → (room → ⊥) × (number why ≡ 9)
  only_room why some most spans (inl (p, e)) = absurd (p some)
  only_room why some most spans (inr (p, inl (q, e))) = absurd (q most)
  only_room why some most spans (inr (p, inr (q, inl (r, e)))) = absurd (r spans)
  only_room why some most spans (inr (p, inr (q, inr (r, inl broken)))) = broken
  only_room why some most spans (inr (p, inr (q, inr (r, inr (s, none))))) = absurd none

  pub divided : (f : Fit W) (k : ℕ) (ends ends' : List ℕ) (r : Result Told Refusal) → 0 < size m f → size m f ≤ 512 → size m f ≤ f.mark → Allowed f.limit k → TableDivided (table_of f) (size m f) k ends r ends' → ((weight : ℕ → ℕ → ℕ) (rounds : ℕ) → Right weight (table_of f) rounds (size m f) → k ≤ rounds → Divided weight (size m f) k ends r ends') → DivideDid m f k ends r ends'
  divided f k ends ends' (Ok told) some most all allowed table best =
      (all, allowed, table, λ sound. best (m.weight (weighing_of f)) f.limit (right_for_all all sound) allowed.few)
  divided f k ends ends' (Err why) some most all allowed table best =
      let spans : Spans _ = record { some = allowed.some; few = let few = allowed.few in let most = f.limited.1 in omega arith } in
      let short = only_room why some most spans table.0 in (
        inr (some, inr (all, inr (allowed, inl short))),
        table.1,
        λ sound. let worse = only_room why some most spans (best (m.weight (weighing_of f)) f.limit (right_for_all all sound) allowed.few) in inr (some, inr (all, inr (allowed, inl worse))),
      )

  pub exact_right : {f : Fit W} {k : ℕ} → size m f ≤ f.mark → Allowed f.limit k → k ≤ size m f → Sound m f → Least (m.weight (weighing_of f)) k (size m f) (number_or_zero (tally_at (table_of f) k (size m f)))
  exact_right {f} {k} all allowed few sound = exact_least (m.weight (weighing_of f)) (table_of f) f.limit (size m f) k (right_for_all all sound) allowed.some allowed.few few
