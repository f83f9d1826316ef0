-- What the search of the whole sheet found, brought round, are the farthest corners.
use Rattle.std.proofs.Common.{◌≡◌, length, ◌∙◌, arith}
use Rattle.hull.specs.Hulls.{corners_of}
use Rattle.hull.proofs.Around.{columns_name_farthest, put_back, farthest_unique}
use Rattle.hull.proofs.swings.Swings.farthest.Goals as goal

pub returns : goal.returns
returns c =
    let hull = c.args.self.now.hull in
    let cs = corners_of hull in
    let long = c.in_ok-told.ensures.answer.1 in
    let searched = c.in_ok-told.ensures.answer.2 in
    let all : c.rows-n.result ≡ length cs = c.rows-n.ensures.value in
    let brought = put_back c.rows-n.result c.search.new.answers c.bring_round.new.columns (omega arith) c.bring_round.auto.columns c.bring_round.ensures.brought in
    let found = columns_name_farthest cs hull.enough hull.left c.rows-n.result c.columns.result all c.columns.ensures.value c.search.new.answers _ searched.found brought.0 in
    record {
      answer = (
        record { for_answers = omega (arith, long.for_answers); for_work = omega (arith, long.for_work) },
        record {
          found = found;
          only = λ i q hi far. farthest_unique cs i q _ hi far (found i hi);
          answers_kept = λ i past. brought.1 i (omega arith) ∙ searched.answers_kept i (omega arith);
          work_kept = λ i past. searched.work_kept i (omega arith);
          few = omega (arith, searched.few);
        },
      );
      after = (searched.passed, searched.ledger_risen);
    }
