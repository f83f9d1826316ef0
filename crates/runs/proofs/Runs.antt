-- What every run of a fit keeps, and so what its next call answers.
use Rattle.std.proofs.Common.{◌≡◌, ℕ, zero, suc, ◌+◌, ◌-◌, ◌*◌, ◌<◌, ◌≤◌, min, Bool, true, false, ◌⊎◌, List, [], ◌∷◌, map, length, replicate, Ok, Err, Result, sym, refl, ap, ◌∙◌, subst, inl, inr, arith}
use Rattle.std.proofs.lemmas.List.{length-map}
use Rattle.refusal.specs.declared.Refusal.{Refusal}
use Rattle.weighing.specs.declared.weighing.Weighing.{Ghosts}
use Rattle.division.specs.declared.table.Told.{Told}
use Rattle.division.specs.Divide.{Answered, BestFits}
use Rattle.division.specs.Divisions.{Least}
use Rattle.fit.specs.declared.fit.Fit.{Fit}
use Rattle.runs.specs.declared.step.Call.{Call}
use Rattle.runs.specs.declared.step.Call.TheVariants.{Take, Drop, Wipe, Settle, Divide, Exact}
use Rattle.runs.specs.declared.step.Answer.{Answer}
use Rattle.runs.specs.declared.step.Answer.TheVariants.{Held, Settled, Divided, Weight}
use Rattle.fit.specs.Calls.{Sound, Allowed, Long, TakeDid, DropDid, WipeDid, SettleDid, DivideDid, ExactDid, size, unsettled, weighing_of, limit_of}
use Rattle.runs.specs.Runs.{ByHeld, BySettled, ByDivided, ByWeight, Unrefused, Lists, Did, Event, Reached, opened, called, all_but_last, after_call, readings, settled, TakeMeets, DropMeets, SettleMeets, DivideMeets, ExactMeets, Meets, Law}

-- an answer of the right kind, or a refusal
module _ (C : Result Answer Refusal → Type 0) where
  held_elim : (P : Result ℕ Refusal → Type 0) → ((n : ℕ) → P (Ok n) → C (Ok (Held n))) → ((why : Refusal) → P (Err why) → C (Err why)) → (r : Result Answer Refusal) → ByHeld P r → C r
  held_elim P ok err (Ok (Held n)) p = ok n p
  held_elim P ok err (Ok (Settled told)) p = absurd p
  held_elim P ok err (Ok (Divided told)) p = absurd p
  held_elim P ok err (Ok (Weight v)) p = absurd p
  held_elim P ok err (Err why) p = err why p

  settled_elim : (P : Result ℕ Refusal → Type 0) → ((n : ℕ) → P (Ok n) → C (Ok (Settled n))) → ((why : Refusal) → P (Err why) → C (Err why)) → (r : Result Answer Refusal) → BySettled P r → C r
  settled_elim P ok err (Ok (Held n)) p = absurd p
  settled_elim P ok err (Ok (Settled told)) p = ok told p
  settled_elim P ok err (Ok (Divided told)) p = absurd p
  settled_elim P ok err (Ok (Weight v)) p = absurd p
  settled_elim P ok err (Err why) p = err why p

  divided_elim : (P : Result Told Refusal → Type 0) → ((t : Told) → P (Ok t) → C (Ok (Divided t))) → ((why : Refusal) → P (Err why) → C (Err why)) → (r : Result Answer Refusal) → ByDivided P r → C r
  divided_elim P ok err (Ok (Held n)) p = absurd p
  divided_elim P ok err (Ok (Settled told)) p = absurd p
  divided_elim P ok err (Ok (Divided told)) p = ok told p
  divided_elim P ok err (Ok (Weight v)) p = absurd p
  divided_elim P ok err (Err why) p = err why p

  weight_elim : (P : Result ℕ Refusal → Type 0) → ((v : ℕ) → P (Ok v) → C (Ok (Weight v))) → ((why : Refusal) → P (Err why) → C (Err why)) → (r : Result Answer Refusal) → ByWeight P r → C r
  weight_elim P ok err (Ok (Held n)) p = absurd p
  weight_elim P ok err (Ok (Settled told)) p = absurd p
  weight_elim P ok err (Ok (Divided told)) p = absurd p
  weight_elim P ok err (Ok (Weight v)) p = ok v p
  weight_elim P ok err (Err why) p = err why p

-- below a settled reading all are settled
abbrev pub Ordered : List Bool → Type 0
Ordered [] = Unit {0}
Ordered (true ∷ rs) = settled rs ≡ length rs
Ordered (false ∷ rs) = Ordered rs

settled_le : (rs : List Bool) → settled rs ≤ length rs
settled_le [] = omega arith
settled_le (true ∷ rs) = let h = settled_le rs in omega arith
settled_le (false ∷ rs) = let h = settled_le rs in omega arith

all_ordered : (rs : List Bool) → settled rs ≡ length rs → Ordered rs
all_ordered [] e = tt
all_ordered (true ∷ rs) e = omega arith
all_ordered (false ∷ rs) e = absurd (let h = settled_le rs in omega arith)

-- n readings of which none is settled
record Unsettled (n : ℕ) (rs : List Bool) : Type 0 where
  many : length rs ≡ n
  none : settled rs ≡ 0
  ordered : Ordered rs

brought : (n : ℕ) → Unsettled n (replicate n false)
brought zero = record { many = refl; none = refl; ordered = tt }
brought (suc n) = let b = brought n in record { many = ap suc b.many; none = b.none; ordered = b.ordered }

map_settled : (rs : List Bool) → settled (map (λ (r : Bool). true) rs) ≡ length rs
map_settled [] = refl
map_settled (r ∷ rs) = let h = map_settled rs in omega arith

drop_settled : (rs : List Bool) → Ordered rs → settled (all_but_last rs) ≡ min (settled rs) (length rs - 1)
drop_settled [] o = refl
drop_settled (true ∷ rs) o = omega arith
drop_settled (false ∷ rs) o = let h = settled_le rs in omega arith

drop_ordered : (rs : List Bool) → Ordered rs → Ordered (all_but_last rs)
drop_ordered [] o = tt
drop_ordered (true ∷ rs) o = all_ordered rs o
drop_ordered (false ∷ rs) o = o

drop_length : (rs : List Bool) → length (all_but_last rs) ≡ length rs - 1
drop_length [] = refl
drop_length (r ∷ rs) = omega arith

-- the readings of the history are those of the state, and its tallies are right
pub record Kept {W : Type 0} (m : Ghosts W) (limit : ℕ) (rs : List Bool) (f : Fit W) : Type 0 where
  pub sound : Sound m f
  pub limited : f.limit ≡ limit
  pub many : length rs ≡ size m f
  pub marked : settled rs ≡ f.mark
  pub ordered : Ordered rs

module _ {W : Type 0} (m : Ghosts W) (limit : ℕ) where
  kept_same : {rs : List Bool} {f f' : Fit W} → f' ≡ f → Kept m limit rs f → Kept m limit rs f'
  kept_same {rs} e k = subst (λ f. Kept m limit rs f) (sym e) k

  -- one more call keeps it
  next : (rs : List Bool) (f f' : Fit W) (call : Call) (l l' : Lists) (r : Result Answer Refusal) → Kept m limit rs f → Did m f call l r f' l' → Kept m limit (after_call rs call r) f'
  next rs f f' (Take x) l l' r k d = held_elim (λ r. Kept m limit (after_call rs (Take x) r) f') (λ r. TakeDid m f x r f')
      (λ n p. let s = p.1 in let mark = s.mark_is in let lim = s.limit_same in let hold = p.0.2.holds in let low = settled_le rs in let a = k.limited in let b = k.many in let c = k.marked in let e = p.0.1 in
      record { sound = s.sound k.sound; limited = omega arith; many = omega arith; marked = omega arith; ordered = k.ordered })
      (λ why p. kept_same p.1 k) r d.0
  next rs f f' Drop l l' r k d = held_elim (λ r. Kept m limit (after_call rs Drop r) f') (λ r. DropDid m f r f')
      (λ n p. let s = p.1 in let mark = s.mark_is in let lim = s.limit_same in let hold = p.0.2.holds in let len = drop_length rs in let low = drop_settled rs k.ordered in let a = k.limited in let b = k.many in let c = k.marked in let e = p.0.1 in
      record { sound = s.sound k.sound; limited = omega arith; many = omega arith; marked = omega arith; ordered = drop_ordered rs k.ordered })
      (λ why p. kept_same p.1 k) r d.0
  next rs f f' Wipe l l' r k d = held_elim (λ r. Kept m limit (after_call rs Wipe r) f') (Unrefused (λ n. WipeDid m f n f'))
      (λ n p. let s = p.1 in let mark = s.mark_is in let lim = s.limit_same in let hold = p.0.1.holds in let a = k.limited in let e = p.0.0 in
      record { sound = s.sound k.sound; limited = omega arith; many = omega arith; marked = omega arith; ordered = tt })
      (λ why p. absurd p) r d.0
  next rs f f' Settle l l' r k d = settled_elim (λ r. Kept m limit (after_call rs Settle r) f') (λ r. SettleDid m f l.ends l.work r f' l'.ends l'.work)
      (λ n p. let s = p.2 in let mark = s.mark_is in let lim = s.limit_same in let hold = s.weighing_same.held_same in let len = length-map rs (λ (r : Bool). true) in let all = map_settled rs in let a = k.limited in let b = k.many in
      record { sound = s.sound k.sound; limited = omega arith; many = omega arith; marked = omega arith; ordered = all_ordered (map (λ (r : Bool). true) rs) (all ∙ sym len) })
      (λ why p. kept_same p.1 k) r d
  next rs f f' (Divide j) l l' r k d = divided_elim (λ r. Kept m limit (after_call rs (Divide j) r) f') (λ r. DivideDid m f j l.ends r l'.ends) (λ n p. kept_same d.2 k) (λ why p. kept_same d.2 k) r d.0
  next rs f f' (Exact j) l l' r k d = weight_elim (λ r. Kept m limit (after_call rs (Exact j) r) f') (λ r. ExactDid m f j r) (λ n p. kept_same d.2 k) (λ why p. kept_same d.2 k) r d.0

module _ {W : Type 0} (m : Ghosts W) where
  pub kept : {w : W} {k : ℕ} {h : List Event} {f : Fit W} → Reached m w k h f → Kept m (limit_of k) (readings (m.held w) h) f
  kept {w = w} {f = f} (opened o) =
      let b = brought (m.held w) in
      let same : size m f ≡ m.held w = ap m.held o.owns in
      record { sound = o.sound; limited = o.limited; many = b.many ∙ sym same; marked = b.none ∙ sym o.unmarked; ordered = b.ordered }
  kept (called e r d) = next m _ _ _ _ e.call e.before e.after e.answer (kept r) d

-- a rule, and those after it, may be said in other words
rule_as : {A B Number Later Later' : Type 0} → (A → B) → (B → A) → (Later → Later') → ((A → ⊥) × Number) ⊎ (A × Later) → ((B → ⊥) × Number) ⊎ (B × Later')
rule_as there back later (inl (broken, e)) = inl ((λ b. broken (back b)), e)
rule_as there back later (inr (a, p)) = inr (there a, later p)

lists_same : (l l' : Lists) → l'.ends ≡ l.ends → l'.work ≡ l.work → l' ≡ l
lists_same l l' ends work = ap (λ x. record { ends = x; work = l'.work }) ends ∙ ap (λ x. record { ends = l.ends; work = x }) work

module _ {W : Type 0} (m : Ghosts W) (limit : ℕ) (rs : List Bool) (f f' : Fit W) (k : Kept m limit rs f) where
  many_is : size m f ≡ length rs
  many_is = sym k.many

  unsettled_is : unsettled m f ≡ length rs - settled rs
  unsettled_is = let a = k.many in let b = k.marked in omega arith

  -- all are settled where the mark has come to the end
  all_settled : size m f ≤ f.mark → settled rs ≡ length rs
  all_settled h = let a = k.many in let b = k.marked in let c = k.sound.marked in omega arith

  at_end : settled rs ≡ length rs → size m f ≤ f.mark
  at_end h = let a = k.many in let b = k.marked in omega arith

  asked : {j : ℕ} → Allowed f.limit j → Allowed limit j
  asked {j} = subst (λ x. Allowed x j) k.limited

  allowed : {j : ℕ} → Allowed limit j → Allowed f.limit j
  allowed {j} = subst (λ x. Allowed x j) (sym k.limited)

  some_held : 0 < size m f → 0 < length rs
  some_held = subst (λ n. 0 < n) many_is

  some_size : 0 < length rs → 0 < size m f
  some_size = subst (λ n. 0 < n) k.many

  settle_told : {told : ℕ} → told ≤ f.limit * (4 * size m f + 13 * unsettled m f) → told ≤ limit * (4 * length rs + 13 * (length rs - settled rs))
  settle_told {told} few =
      subst (λ x. told ≤ x * (4 * length rs + 13 * (length rs - settled rs))) k.limited (subst (λ x. told ≤ f.limit * (4 * length rs + 13 * x)) unsettled_is (subst (λ x. told ≤ f.limit * (4 * x + 13 * unsettled m f)) many_is few))

  meets : (call : Call) (l l' : Lists) (r : Result Answer Refusal) → Did m f call l r f' l' → Meets m (weighing_of f) (weighing_of f') limit rs call l r l'
  meets (Take x) l l' r d = (
    held_elim (ByHeld (TakeMeets m (weighing_of f) (weighing_of f') limit rs x)) (λ r. TakeDid m f x r f')
        (λ n p. let e = p.0.1 in let a = k.many in (p.0.0, omega arith))
        (λ why p. p.0.0) r d.0,
    d.1,
  )
  meets Drop l l' r d = (
    held_elim (ByHeld (DropMeets m (weighing_of f) (weighing_of f') limit rs)) (λ r. DropDid m f r f')
        (λ n p. let e = p.0.1 in let a = k.many in (some_held p.0.0, omega arith))
        (λ why p. rule_as some_held some_size (λ x. x) p.0.0) r d.0,
    d.1,
  )
  meets Wipe l l' r d =
      (held_elim (ByHeld (Unrefused (λ n. n ≡ 0))) (Unrefused (λ n. WipeDid m f n f')) (λ n p. p.0.0) (λ why p. p) r d.0, d.1)
  meets Settle l l' r d =
      settled_elim (BySettled (SettleMeets m (weighing_of f) (weighing_of f') limit rs l l')) (λ r. SettleDid m f l.ends l.work r f' l'.ends l'.work)
      (λ told p.
      let s = p.2 in (
        some_held p.0,
        subst (λ u. Long u l.ends l.work) unsettled_is p.1,
        record {
          counted = s.counted;
          few = settle_told s.few;
          idle = λ e. s.idle (let u = unsettled_is in omega arith);
          ends_kept = λ i h. s.answers_kept i (let u = unsettled_is in omega arith);
          work_kept = λ i h. s.work_kept i (let u = unsettled_is in omega arith);
        },
      ))
      (λ why p. (
        rule_as some_held some_size (rule_as (subst (λ u. Long u l.ends l.work) unsettled_is) (subst (λ u. Long u l.ends l.work) (sym unsettled_is)) (λ x. x)) p.0,
        lists_same l l' p.2 p.3,
      ))
      r d
  meets (Divide j) l l' r d =
      divided_elim (ByDivided (DivideMeets m (weighing_of f) (weighing_of f') limit rs j l l')) (λ r. DivideDid m f j l.ends r l'.ends)
      (λ told p. (
        some_held p.2.held,
        all_settled p.0,
        asked p.1,
        subst (λ n. Answered (m.weight (weighing_of f)) n j told l'.ends) many_is (p.3 k.sound),
        p.2.rest,
        d.1,
      ))
      (λ why p. (
        rule_as some_held some_size (rule_as all_settled at_end (rule_as asked allowed (rule_as (subst (λ n. BestFits (m.weight (weighing_of f)) n j (length l.ends)) many_is) (subst (λ n. BestFits (m.weight (weighing_of f)) n j (length l.ends)) k.many) (λ x. x)))) (p.2 k.sound),
        lists_same l l' p.1 d.1,
      ))
      r d.0
  meets (Exact j) l l' r d = (
    weight_elim (ByWeight (ExactMeets m (weighing_of f) (weighing_of f') limit rs j)) (λ r. ExactDid m f j r)
        (λ v p. (some_held p.0, all_settled p.1, asked p.2, subst (λ n. j ≤ n) many_is p.3, subst (λ n. Least (m.weight (weighing_of f)) j n v) many_is (p.5 k.sound)))
        (λ why p. rule_as some_held some_size (rule_as all_settled at_end (rule_as (λ x. (asked x.0, subst (λ n. j ≤ n) many_is x.1)) (λ x. (allowed x.0, subst (λ n. j ≤ n) k.many x.1)) (λ x. x))) p)
        r d.0,
    d.1,
  )

pub law : {W : Type 0} (m : Ghosts W) (f f' : Fit W) (call : Call) (l l' : Lists) (r : Result Answer Refusal) → Did m f call l r f' l' → Law m f f' call l r l'
law m f f' call l l' r did w k h reached = meets m (limit_of k) (readings (m.held w) h) f f' (kept m reached) call l l' r did
