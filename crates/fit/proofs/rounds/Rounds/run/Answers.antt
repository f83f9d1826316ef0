use Rattle.std.proofs.Common.{arith}
use Rattle.fit.proofs.Kept.{Ran, kept_front, round_done}
use Rattle.fit.proofs.rounds.Rounds.run.Goals as goal

pub returns : goal.returns
returns g c =
    let m = g.W.Weighing in
    let s = c.args.self.now in
    let d = c.in-Ok.ensures.answer.2 in
    let ran : Ran m s c.search.new.sheet c.keep_all.new.self c.args.round c.args.mark (m.held s.weighing) c.in-Ok.field-0 c.args.answers.now c.search.new.answers c.args.work.now c.search.new.work =
    rw (← c.held-n.ensures.value) (record {
      ledger = c.new-self.result;
      unread = c.new-self.ensures.value;
      found = d.found;
      few = d.few;
      risen = d.ledger_risen;
      passed = d.passed;
      kept = kept_front m c.search.new.answers (omega arith) c.keep_all.ensures.after;
      answers_kept = d.answers_kept;
      work_kept = d.work_kept;
    }) in
    record { after = round_done m ran c.requires.ahead.some (g.met.W.Weighing.few s.weighing) }
