use Rattle.std.proofs.Common.{◌≡◌, ◌-◌, length}
use Rattle.session.specs.Courses.{Course}
use Rattle.session.proofs.whole.answer_lines.Given as goal

abbrev pub invariant-loop-line : goal.invariant-loop-line
invariant-loop-line g l =
    (l.reader.input.now ≡ l.initial.reader.input.now)
    × Course g.W.Weighing g.L.Listener.hears l.initial.reader.input.now l.initial.reader.place l.initial.fit l.initial.listener l.reader.place l.fit l.listener

abbrev pub decreases-loop-line : goal.decreases-loop-line
decreases-loop-line g l = length l.reader.input.now - l.reader.place
