use Rattle.runs.specs.Runs.{Lists}
use Rattle.fit_tests.proofs.Called.{divided}
use Rattle.fit_tests.proofs.caller.best_with.Goals as goal

pub returns : goal.returns
returns g c =
    let l0 : Lists = record { ends = c.args.ends.now; work = c.args.work.now } in
    let l1 : Lists = record { ends = c.step.new.ends; work = c.step.new.work } in
    let l2 : Lists = record { ends = c.step-2.new.ends; work = c.step-2.new.work } in
    let l3 : Lists = record { ends = c.step-3.new.ends; work = c.step-3.new.work } in
    record {
      answer = divided g.W.Weighing c.args.weighing c.args.reading c.args.limit c.args.k c.open-fit.result c.step.new.fit l0 l1 c.open-fit.ensures.value
          c.in_ok-step.field-0 c.in_ok-step.ensures.did c.step-2.new.fit l2
          c.in_ok-step-2.field-0 c.in_ok-step-2.ensures.did c.in_ok-step-2.ensures.law c.step-3.new.fit l3 c.step-2.auto.ends c.step-3.result c.step-3.ensures.law;
    }
