-- The ends so far are written.
use Rattle.std.proofs.Common.{take}
use Rattle.std.specs.Fmt.{IsPlainFormatter, HasWritten}
use Rattle.reply.specs.Replies.{ends_text}
use Rattle.reply.proofs.EndsDisplay.fmt.Given as goal

abbrev pub invariant-loop-end : goal.invariant-loop-end
invariant-loop-end g l = IsPlainFormatter l.initial.f → HasWritten g.W.Write.write_str_gives l.initial.f (ends_text (take l.end-index l.end-items)) l.f
