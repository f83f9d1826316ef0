-- Without the last entry, the rest stand as they stood.
use Rattle.std.proofs.Common.{◌≡◌, ◌-◌, ◌≤◌, take, ap, ◌∙◌, arith, rules}
use Rattle.rising.specs.Held.{readings}
use Rattle.rising.specs.HeldLemmas.{held_length, front_is, front_kept}
use Rattle.rising.proofs.readings.Readings.drop_last.Goals as goal

pub invariant_of-self : goal.invariant_of-self
invariant_of-self c =
    let r = c.args.self.now in
    let fewer : c.in_ok-self.field-0 ≤ r.n = search rules in
    let kept = front_kept r c.in_ok-self.field-0 fewer in
    record { room = r.room; few = omega (arith, r.few); small = kept.0; rising = kept.1; summed = kept.2 }

pub returns : goal.returns
returns c =
    let r = c.args.self.now in
    let many = held_length r in
    let one_less : c.in_ok-self.field-0 ≡ r.n - 1 = search rules in
    let some : 1 ≤ r.n = search rules in
    record { answer = (omega arith, omega arith, front_is r c.in_ok-self.field-0 (omega arith) ∙ ap (λ k. take k (readings r)) (omega arith)) }
