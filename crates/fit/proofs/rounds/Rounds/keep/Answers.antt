use Rattle.std.proofs.Common.{arith}
use Rattle.fit.proofs.Kept.{kept_one}
use Rattle.fit.proofs.rounds.Rounds.keep.Goals as goal

pub returns : goal.returns
returns g c =
    let m = g.W.Weighing in
    let met = g.met.W.Weighing in
    let w = c.args.self.now.weighing in
    let e = c.in-Ok.ensures.answer in
    let top = met.topped w in
    record { after = kept_one m c.in-Ok.cost _ (λ a b l h. let x = met.bounded w a b l h in omega arith) (met.few w) c.requires.row c.requires.column c.requires.round c.requires.ledger e.1 e.2 c.put.ensures.after }
