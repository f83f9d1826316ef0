-- The weighing is new, and of the kind that the line names.
use Rattle.std.proofs.lemmas.Result.{on_ok_weaker}
use Rattle.session.proofs.Conducts.{over_said}
use Rattle.session.proofs.whole.begin.Goals as goal

pub returns-in-Ceiling : goal.returns-in-Ceiling
returns-in-Ceiling g c =
    let new = c.new.ensures.value in
    record { heard = on_ok_weaker c.talk.result (λ whole. over_said g.L.Listener.hears c.args.reader.now.input.now c.args.reader.now.place c.args.listener.now _ c.in-Ceiling.is (c.new.result, new.0, new.1, whole)) c.talk.ensures.heard }

pub returns-in-Middle : goal.returns-in-Middle
returns-in-Middle g c =
    let new = c.new-in-Middle.ensures.value in
    record { heard = on_ok_weaker c.talk-in-Middle.result (λ whole. over_said g.L.Listener.hears c.args.reader.now.input.now c.args.reader.now.place c.args.listener.now _ c.in-Middle.is (c.new-in-Middle.result, new.0, new.1, whole)) c.talk-in-Middle.ensures.heard }

pub returns-in-Even : goal.returns-in-Even
returns-in-Even g c =
    let new = c.new-even.ensures.value in
    let nominal = c.value_of-length in
    record { heard = on_ok_weaker c.talk-in-Even.result (λ whole. over_said g.L.Listener.hears c.args.reader.now.input.now c.args.reader.now.place c.args.listener.now _ c.in-Even.is (c.new-even.result, nominal.result, nominal.ensures.value, new.1, new.0, new.2, whole)) c.talk-in-Even.ensures.heard }
