-- A reading that the verdict allows finds room, and what held of the entries holds with it.
-- The goals hold after different steps, whose types a shared lemma would have to write out: each finds what it needs anew.
use Rattle.std.proofs.Common.{◌≡◌, ◌+◌, ◌∙◌, length, length-set, arith, rules}
use Rattle.rising.specs.Held.{readings}
use Rattle.rising.specs.Rows.{rising_verdict}
use Rattle.rising.specs.Sums.{sum_first}
use Rattle.rising.specs.HeldLemmas.{held_length, held_few, sums_small, push_is, push_kept}
use Rattle.rising.specs.RowsLemmas.{allowed}
use Rattle.rising.proofs.readings.Readings.take.Goals as goal

pub overflow_add-sum : goal.overflow_add-sum
overflow_add-sum c =
    let r = c.args.self.now in
    let told : rising_verdict (readings r) c.args.reading ≡ 0 = search rules in
    let ok = allowed (readings r) c.args.reading (held_few r) told in
    let total : c.sum_first.result ≡ sum_first (readings r) (length (readings r)) = cc in
    let small = sums_small r (length (readings r)) (omega arith) in
    omega arith

pub invariant_of-self : goal.invariant_of-self
invariant_of-self c =
    let r = c.args.self.now in
    let told : rising_verdict (readings r) c.args.reading ≡ 0 = search rules in
    let ok = allowed (readings r) c.args.reading (held_few r) told in
    let many = held_length r in
    let total : c.sum_first.result ≡ sum_first (readings r) (length (readings r)) = cc in
    let kept = push_kept r c.args.reading (c.sum_first.result + c.args.reading) told (omega arith) in
    record { room = length-set r.entries _ _ ∙ r.room; few = omega arith; small = kept.0; rising = kept.1; summed = kept.2 }

pub returns : goal.returns
returns c =
    let r = c.args.self.now in
    let told : rising_verdict (readings r) c.args.reading ≡ 0 = search rules in
    let many = held_length r in
    record { answer = (told, omega arith, push_is r c.args.reading (c.sum_first.result + c.args.reading) told) }
