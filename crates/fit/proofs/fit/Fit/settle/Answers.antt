use Rattle.std.proofs.Common.{refl, arith}
use Rattle.fit.proofs.Sound.{settled_all}
use Rattle.fit.proofs.fit.Fit.settle.Goals as goal

pub returns : goal.returns
returns g c =
    let met = g.met.W.Weighing in
    record {
      answer = (
        omega arith,
        record { for_answers = omega arith; for_work = omega arith },
        settled_all g.W.Weighing (λ w a b l h. let x = met.bounded w a b l h in let y = met.topped w in omega arith) c.run_all.ensures.after refl c.held-n.ensures.value (omega arith) (omega arith),
      );
    }
