-- The text of each reply.
use Rattle.std.specs.Prelude.{ℕ, List, ◌++◌, length, codes, decimal}
use Rattle.std.specs.List.{flat_map}
use Rattle.refusal.specs.Numbers.{number}
use Rattle.reply.specs.declared.Kind as kinds
use Rattle.reply.specs.declared.Kind.TheVariants.{Ceiling, Middle, Even}
use Rattle.reply.specs.declared.Reply as replies
use Rattle.reply.specs.declared.Reply.TheVariants.{Opened, Held, Settled, Divided, Exact, Refused}

abbrev pub kind_text : kinds.Kind → List ℕ
kind_text Ceiling = codes "ceiling"
kind_text Middle = codes "middle"
kind_text (Even long) = codes "even " ++ decimal long

-- each end, with a space before it
abbrev pub ends_text : List ℕ → List ℕ
ends_text = flat_map (λ end. codes " " ++ decimal end)

abbrev pub reply_text : replies.Reply → List ℕ
reply_text (Opened kind limit) = codes "open " ++ (kind_text kind ++ (codes " " ++ decimal limit))
reply_text (Held count) = codes "held " ++ decimal count
reply_text (Settled count) = codes "settled " ++ decimal count
reply_text (Divided weight ends) = codes "spans " ++ (decimal (length ends.now) ++ (codes " weight " ++ (decimal weight ++ (codes " ends" ++ ends_text ends.now))))
reply_text (Exact spans weight) = codes "exact " ++ (decimal spans ++ (codes " weight " ++ decimal weight))
reply_text (Refused why) = codes "refused " ++ decimal (number why)
