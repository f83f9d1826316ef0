-- What the parts read off the table is what a divide answers; where the table is right, that is the best division.
use Rattle.std.proofs.Common.{Ok, Err, ap, ◌∙◌, arith}
use Rattle.refusal.specs.declared.Refusal.TheVariants.{ListTooShort}
use Rattle.division.specs.declared.table.Told.{Told}
use Rattle.division.specs.Costs.{number_or_zero}
use Rattle.division.specs.Divide.{Spans, ReadOff}
use Rattle.division.proofs.Divide.{too_short, divided_best}
use Rattle.division.proofs.table.Table.divide.Goals as goal

pub returns-then-ends-spans : goal.returns-then-ends-spans
returns-then-ends-spans c =
    let spans : Spans c.args.k = record { some = omega arith; few = omega arith } in
    let off = too_short c.args.self.now c.args.n c.args.k c.fewest-spans.result c.args.ends.now (omega arith) (omega arith) spans c.fewest-spans.ensures.value c.if-ends-spans.true in
    record { answer = off; best = λ weight rounds right few. divided_best weight c.args.self.now rounds c.args.n c.args.k right few c.args.ends.now (Err ListTooShort) c.args.ends.now off }

pub returns : goal.returns
returns c =
    let told : Told = record { spans = c.fewest-spans.result; weight = c.or_zero-weight.result } in
    let off : ReadOff c.args.self.now c.args.n c.args.k c.args.ends.now told c.follow.new.ends =
    record {
      held = omega arith;
      readings = omega arith;
      spans = record { some = omega arith; few = omega arith };
      fewest = c.fewest-spans.ensures.value;
      weighs = c.or_zero-weight.ensures.value ∙ ap number_or_zero c.tally.ensures.value;
      room = omega arith;
      ends = c.follow.ensures.first;
      rest = c.follow.ensures.rest;
    } in
    record { answer = off; best = λ weight rounds right few. divided_best weight c.args.self.now rounds c.args.n c.args.k right few c.args.ends.now (Ok told) c.follow.new.ends off }
