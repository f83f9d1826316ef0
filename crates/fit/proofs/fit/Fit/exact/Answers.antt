use Rattle.std.proofs.Common.{◌≡◌, ◌≤◌, sym, refl, ap, ◌∙◌, subst, arith}
use Rattle.division.specs.Costs.{number_or_zero}
use Rattle.division.specs.Divisions.{Least}
use Rattle.division.specs.Tables.{tally_at}
use Rattle.fit.proofs.Sound.{exact_right}
use Rattle.fit.proofs.fit.Fit.exact.Goals as goal

pub returns : goal.returns
returns g c =
    let m = g.W.Weighing in
    let f = c.args.self.now in
    let ready = c.in_ok-n.ensures.answer in
    let allowed = c.if-not-allows.ensures.value.0 refl in
    let few : c.args.k ≤ m.held f.rounds.weighing = omega (arith, ready.0) in
    let v : c.or_zero.result ≡ number_or_zero (tally_at f.rounds.table c.args.k (m.held f.rounds.weighing)) = c.or_zero.ensures.value ∙ ap number_or_zero (c.tally.ensures.value ∙ ap (tally_at f.rounds.table c.args.k) ready.0) in
    record { answer = (ready.1, ready.2, allowed, few, v, λ sound. subst (λ x. Least (m.weight f.rounds.weighing) c.args.k (m.held f.rounds.weighing) x) (sym v) (exact_right m ready.2 allowed few sound)) }
