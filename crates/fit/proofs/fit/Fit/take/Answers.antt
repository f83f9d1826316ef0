use Rattle.std.proofs.Common.{refl}
use Rattle.fit.proofs.Sound.{shifts}
use Rattle.fit.proofs.fit.Fit.take.Goals as goal

pub returns : goal.returns
returns g c =
    let did = c.in_ok-n.ensures in
    record { answer = (did.answer, shifts g.W.Weighing did.answer.2 did.levels refl refl c.min-self.ensures) }
