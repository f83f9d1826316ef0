use Rattle.std.proofs.Common.{[], ◌++◌, ◌∙◌, get_or, take, codes, decimal, refl, sym, ap, arith}
use Rattle.std.proofs.Output.{writes_in_calls_nil, has_written_append, has_written_of_eq}
use Rattle.std.proofs.lemmas.List.{take_all, take_more, flat_map_more}
use Rattle.reply.specs.Replies.{ends_text}
use Rattle.reply.proofs.EndsDisplay.fmt.Goals as goal

pub loop-end-init : goal.loop-end-init
loop-end-init g c = λ plain. record { wrote = writes_in_calls_nil g.W.Write.write_str_gives _; plain = plain }

pub loop-end-preserved : goal.loop-end-preserved
loop-end-preserved g c = λ plain.
    let ends = c.args.self.now.0.now in
    let i = c.loop-end.end-index in
    let so_far = c.loop-end.invariant plain in
    let one_more = flat_map_more (λ end. codes " " ++ decimal end) [] (take i ends) (get_or ends i 0) ∙ ap ends_text (sym (take_more ends i 0 (omega arith))) in
    has_written_of_eq g.W.Write.write_str_gives _ _ _ _ one_more (has_written_append g.W.Write.write_str_gives _ _ _ _ _ so_far (c.in_ok-write.ensures.writes so_far.plain refl))

pub returns-clause-writes : goal.returns-clause-writes
returns-clause-writes g c = λ plain _. has_written_of_eq g.W.Write.write_str_gives _ _ _ _ (ap ends_text (take_all c.loop-end.end-index c.args.self.now.0.now (omega arith))) (c.loop-end.invariant plain)
