use Rattle.std.proofs.Common.{refl, ◌∙◌}
use Rattle.session.specs.Courses.{begun}
use Rattle.session.proofs.Courses.{next_answered, next_refused}
use Rattle.session.proofs.whole.answer_lines.Goals as goal

pub loop-line-init : goal.loop-line-init
loop-line-init g c = (refl, begun)

pub loop-line-preserved-in-Continue-1 : goal.loop-line-preserved-in-Continue-1
loop-line-preserved-in-Continue-1 g c =
    let same = c.loop-line.invariant.0 in
    let read = c.in-Some.ensures in (
      read.passed.input ∙ same,
      next_answered g.W.Weighing g.L.Listener.hears _ _ _ _ same read.passed.place read.answer c.in-Ok.is c.loop-line.invariant.1 c.perform.ensures.answer c.in_ok-hear-in-Ok.ensures.heard,
    )

pub loop-line-preserved : goal.loop-line-preserved
loop-line-preserved g c =
    let same = c.loop-line.invariant.0 in
    let read = c.in-Some.ensures in (
      read.passed.input ∙ same,
      next_refused g.W.Weighing g.L.Listener.hears _ _ _ _ same read.passed.place read.answer c.in-Err.is c.loop-line.invariant.1 c.refused.ensures.value c.in_ok-hear-in-Err.ensures.heard,
    )
