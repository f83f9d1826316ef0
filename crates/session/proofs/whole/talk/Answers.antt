-- A session is its opening and then its lines, where all were heard.
use Rattle.std.proofs.Common.{subst}
use Rattle.std.proofs.lemmas.Result.{on_ok_weaker}
use Rattle.session.proofs.whole.talk.Goals as goal

pub returns : goal.returns
returns g c =
    let tells = subst (λ text. g.L.Listener.hears c.args.listener.now text c.hear.new.self) c.opened.ensures.value c.in_ok-hear.ensures.heard in
    record {
      heard = on_ok_weaker c.answer_lines.result (λ lines. record { fit = c.open-fit.result; fit' = c.answer_lines.new.fit; told = c.hear.new.self; opens = c.open-fit.ensures.value; tells = tells; lines = lines }) c.answer_lines.ensures.heard;
    }
