use Rattle.std.proofs.Common.{refl, arith}
use Rattle.fit.proofs.fit.Fit.open.Goals as goal

pub returns : goal.returns
returns g c =
    let limit = c.clamp.ensures in
    record {
      value = record {
        owns = refl;
        limited = omega arith;
        unmarked = refl;
        sound = record { marked = omega arith; right = c.new.ensures.right (g.W.Weighing.weight c.args.weighing) c.clamp.result };
      };
    }
