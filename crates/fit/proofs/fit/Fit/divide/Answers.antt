use Rattle.std.proofs.Common.{ℕ, ◌≤◌, refl, subst}
use Rattle.division.specs.Tables.{Right}
use Rattle.division.specs.Divide.{TableDivided, Divided}
use Rattle.fit.proofs.Sound.{divided}
use Rattle.fit.proofs.fit.Fit.divide.Goals as goal

pub returns : goal.returns
returns g c =
    let m = g.W.Weighing in
    let f = c.args.self.now in
    let ready = c.in_ok-n.ensures.answer in
    let n = ready.0 in
    let k = c.args.k in
    let old = c.args.ends.now in
    let new = c.divide.new.ends in
    let r = c.divide.result in
    let did = c.divide.ensures in
    record {
      answer = divided m f k old new r ready.1 (g.met.W.Weighing.few f.rounds.weighing) ready.2 (c.if-not-allows.ensures.value.0 refl)
          (subst (λ x. TableDivided f.rounds.table x k old r new) n did.answer)
          (subst (λ x. (weight : ℕ → ℕ → ℕ) (rounds : ℕ) → Right weight f.rounds.table rounds x → k ≤ rounds → Divided weight x k old r new) n did.best);
    }
