-- The caller's promise from the law over runs: its run of three calls is one of those that the law speaks of.
use Rattle.std.proofs.Common.{◌≡◌, ℕ, zero, suc, ◌+◌, ◌-◌, ◌<◌, Bool, true, false, List, [], ◌∷◌, map, length, replicate, Ok, Err, Result, refl, ap, ◌∙◌, subst, inl, inr, arith}
use Rattle.std.proofs.lemmas.List.{length-map, length-replicate}
use Rattle.refusal.specs.declared.Refusal.{Refusal}
use Rattle.refusal.specs.Rules.{Broken, NoOther}
use Rattle.weighing.specs.declared.weighing.Weighing.{Ghosts}
use Rattle.weighing.specs.Did as weighing
use Rattle.division.specs.Divide.{Answered, BestFits}
use Rattle.division.proofs.Tallies.{spans_le}
use Rattle.fit.specs.declared.fit.Fit.{Fit}
use Rattle.runs.specs.declared.step.Call.TheVariants.{Take, Settle, Divide}
use Rattle.runs.specs.declared.step.Answer.{Answer}
use Rattle.runs.specs.declared.step.Answer.TheVariants.{Held, Settled, Divided, Weight}
use Rattle.fit.specs.Calls.{Opens, TakeDid, SettleDid, Allowed, Long, weighing_of, limit_of}
use Rattle.fit.specs.Rounds.{SameWeighing}
use Rattle.runs.specs.Runs.{ByHeld, BySettled, ByDivided, Lists, Did, Event, Reached, opened, called, settled, SettleMeets, DivideMeets, Law}
use Rattle.fit_tests.specs.Caller.{CutDid}

brought_unsettled : (n : ℕ) → settled (replicate n false) ≡ 0
brought_unsettled zero = refl
brought_unsettled (suc n) = brought_unsettled n

all_settled : (rs : List Bool) → settled (map (λ (r : Bool). true) rs) ≡ length (map (λ (r : Bool). true) rs)
all_settled [] = refl
all_settled (r ∷ rs) = let h = all_settled rs in omega arith

-- One for each kind of answer: the claims about the two are told apart by the case alone.
told_held : (P : Result ℕ Refusal → Type 0) (a : Answer) → ByHeld P (Ok a) → (n : ℕ) × P (Ok n)
told_held P (Held n) p = (n, p)
told_held P (Settled n) p = absurd p
told_held P (Divided t) p = absurd p
told_held P (Weight v) p = absurd p

told_settled : (P : Result ℕ Refusal → Type 0) (a : Answer) → BySettled P (Ok a) → (n : ℕ) × P (Ok n)
told_settled P (Held n) p = absurd p
told_settled P (Settled n) p = (n, p)
told_settled P (Divided t) p = absurd p
told_settled P (Weight v) p = absurd p

module _ {W : Type 0} (m : Ghosts W) (w : W) (reading limit k : ℕ) (f0 f1 : Fit W) (l0 l1 : Lists) (o : Opens m w limit f0) where
  -- the reading is taken
  module _ (a : Answer) (taken : Did m f0 (Take reading) l0 (Ok a) f1 l1) (f2 : Fit W) (l2 : Lists) where
    abbrev rs : List Bool
    rs = false ∷ replicate (m.held w) false

    took : weighing.TakeDid m w (weighing_of f1) reading (Ok (m.held w + 1))
    took =
        let t = told_held (λ r. TakeDid m f0 reading r f1) a taken.0 in
        let did = subst (λ v. weighing.TakeDid m v (weighing_of f1) reading (Ok t.0)) o.owns t.1.0 in
        subst (λ n. weighing.TakeDid m w (weighing_of f1) reading (Ok n)) did.1 did

    abbrev take_event : Event
    take_event = record { call = Take reading; before = l0; answer = Ok a; after = l1 }

    reached_one : Reached m w limit (take_event ∷ []) f1
    reached_one = called take_event (opened o) taken

    many_unsettled : length rs - settled rs ≡ m.held w + 1
    many_unsettled = let a = length-replicate (m.held w) false in let b = brought_unsettled (m.held w) in omega arith

    -- and all are settled
    module _ (b : Answer) (settles : Did m f1 Settle l1 (Ok b) f2 l2) (law-settle : Law m f1 f2 Settle l1 (Ok b) l2) (f3 : Fit W) (l3 : Lists) (as_long : length l2.ends ≡ length l1.ends) where
      abbrev all : List Bool
      all = map (λ (r : Bool). true) rs

      abbrev settle_event : Event
      settle_event = record { call = Settle; before = l1; answer = Ok b; after = l2 }

      reached_two : Reached m w limit (settle_event ∷ take_event ∷ []) f2
      reached_two = called settle_event reached_one settles

      same_weighing : SameWeighing m (weighing_of f1) (weighing_of f2)
      same_weighing = (told_settled (λ r. SettleDid m f1 l1.ends l1.work r f2 l2.ends l2.work) b settles).1.2.weighing_same

      settle_long : Long (m.held w + 1) l1.ends l1.work
      settle_long = subst (λ n. Long n l1.ends l1.work) many_unsettled (told_settled (SettleMeets m (weighing_of f1) (weighing_of f2) (limit_of limit) rs l1 l2) b (law-settle w limit _ reached_one)).1.1

      many : length all ≡ m.held w + 1
      many = length-map rs (λ (r : Bool). true) ∙ ap suc (length-replicate (m.held w) false) ∙ omega arith

      fits : BestFits (m.weight (weighing_of f2)) (length all) k (length l2.ends)
      fits ends best = let h = spans_le 0 ends (length all) best.divides in let n = many in let l = settle_long.for_answers in omega arith

      asked : (why : Refusal) → Broken (0 < length all) 5 (Broken (settled all ≡ length all) 7 (Broken (Allowed (limit_of limit) k) 6 (Broken (BestFits (m.weight (weighing_of f2)) (length all) k (length l2.ends)) 9 NoOther))) why
          → Broken (Allowed (limit_of limit) k) 6 NoOther why
      asked why (inl b) = absurd (b.0 (omega arith))
      asked why (inr (some, inl b)) = absurd (b.0 (all_settled rs))
      asked why (inr (some, inr (settled, inl b))) = inl b
      asked why (inr (some, inr (settled, inr (ask, inl b)))) = absurd (b.0 fits)
      asked why (inr (some, inr (settled, inr (ask, inr b)))) = absurd b.1

      from_law : (r : Result Answer Refusal) → ByDivided (DivideMeets m (weighing_of f2) (weighing_of f3) (limit_of limit) all k l2 l3) r → ByDivided (CutDid m w reading limit k l0.ends l0.work l3.ends) r
      from_law (Ok (Held n)) p = p
      from_law (Ok (Settled n)) p = p
      from_law (Ok (Divided told)) p =
          record { taken = weighing_of f1; took = took; owned = weighing_of f2; same = same_weighing; best = subst (λ n. Answered (m.weight (weighing_of f2)) n k told l3.ends) many p.3 }
      from_law (Ok (Weight v)) p = p
      from_law (Err why) p = inr (took.0, inr (subst (λ l. Long (m.held w + 1) l.ends l.work) taken.1 settle_long, asked why p.0))

      pub divided : (r : Result Answer Refusal) → Law m f2 f3 (Divide k) l2 r l3 → ByDivided (CutDid m w reading limit k l0.ends l0.work l3.ends) r
      divided r law = from_law r (law w limit _ reached_two)
