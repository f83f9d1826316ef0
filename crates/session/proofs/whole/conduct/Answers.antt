use Rattle.std.proofs.lemmas.Result.{on_ok_weaker}
use Rattle.session.proofs.Conducts.{refused_first, opened_first}
use Rattle.session.proofs.whole.conduct.Goals as goal

pub returns-in-Some-Ok : goal.returns-in-Some-Ok
returns-in-Some-Ok g c =
    let start = c.new-reader.ensures in
    let read = c.in-Some-Ok.ensures in
    record { heard = on_ok_weaker c.begin.result (opened_first g.L.Listener.hears c.args.input.now c.args.listener.now _ start.input start.place c.in-Some-Ok.field-0 read.answer c.in-Some-Ok.opening c.in-Some-Ok.field-0-is read.passed.input read.passed.place) c.begin.ensures.heard }

pub returns-in-Some-Err : goal.returns-in-Some-Err
returns-in-Some-Err g c =
    let start = c.new-reader.ensures in
    record { heard = on_ok_weaker c.hear.result (refused_first g.L.Listener.hears c.args.input.now c.args.listener.now _ start.input start.place c.in-Some-Err.field-0 c.in-Some-Err.ensures.answer c.in-Some-Err.why c.in-Some-Err.field-0-is c.refused.ensures.value) c.hear.ensures.heard }
