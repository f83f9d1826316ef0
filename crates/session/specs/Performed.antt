-- One line of a session: which call its command asks for, and which line of text tells the answer.
use Rattle.std.specs.Prelude.{◌≡◌, ℕ, ◌≤◌, List, ◌++◌, take, Ok, Err, codes, decimal, Result}
use Rattle.refusal.specs.declared.Refusal.{Refusal}
use Rattle.refusal.specs.Numbers.{number}
use Rattle.weighing.specs.declared.weighing.Weighing.{Ghosts}
use Rattle.console.specs.Numerals.{NumberOf}
use Rattle.console.specs.Grammar.{Spoken, taking, dropping, wiping, settling, dividing, exacting}
use Rattle.reply.specs.declared.Kind as kinds
use Rattle.reply.specs.Replies.{kind_text, ends_text}
use Rattle.fit.specs.declared.fit.Fit.{Fit}
use Rattle.runs.specs.declared.step.Call.{Call}
use Rattle.runs.specs.declared.step.Call.TheVariants.{Take, Drop, Wipe, Settle, Divide, Exact}
use Rattle.runs.specs.declared.step.Answer.{Answer}
use Rattle.runs.specs.declared.step.Answer.TheVariants.{Held, Settled, Divided, Weight}
use Rattle.fit.specs.Calls.{size}
use Rattle.runs.specs.Runs.{Lists, Did, Law}

-- the digits write a number of which the claim holds
pub record ByNumber (digits : List ℕ) (Claim : ℕ → Type 0) : Type 0 where
  pub value : ℕ
  pub written : NumberOf digits value
  pub claim : Claim value

-- the command asks for the call
abbrev pub Asks : Spoken → Call → Type 0
Asks (taking digits) call = ByNumber digits (λ n. call ≡ Take n)
Asks dropping call = call ≡ Drop
Asks wiping call = call ≡ Wipe
Asks settling call = call ≡ Settle
Asks (dividing digits) call = ByNumber digits (λ n. call ≡ Divide n)
Asks (exacting digits) call = ByNumber digits (λ n. call ≡ Exact n)

-- the line of text that tells how a session was opened: the kind of weighing, and the limit of spans
abbrev pub open_line : kinds.Kind → ℕ → List ℕ
open_line kind limit = codes "open " ++ (kind_text kind ++ (codes " " ++ decimal limit))

-- how many spans a call asks for
abbrev pub asked : Call → ℕ
asked (Take reading) = 0
asked Drop = 0
asked Wipe = 0
asked Settle = 0
asked (Divide k) = k
asked (Exact k) = k

-- a list has a place for each end that an answer tells of
abbrev pub RoomFor : Result Answer Refusal → ℕ → Type 0
RoomFor (Ok (Held n)) places = Unit {0}
RoomFor (Ok (Settled count)) places = Unit {0}
RoomFor (Ok (Divided told)) places = told.spans ≤ places
RoomFor (Ok (Weight v)) places = Unit {0}
RoomFor (Err why) places = Unit {0}

abbrev pub refused_line : Refusal → List ℕ
refused_line why = codes "refused " ++ decimal (number why)

-- The line of text that tells the answer to a call, after which n readings are held, and the list has these ends.
-- A settle is told by how many readings are then held and settled, and not by how often was weighed.
abbrev pub answer_line : Call → Result Answer Refusal → ℕ → List ℕ → List ℕ
answer_line call (Ok (Held count)) n ends = codes "held " ++ decimal count
answer_line call (Ok (Settled count)) n ends = codes "settled " ++ decimal n
answer_line call (Ok (Divided told)) n ends =
    codes "spans " ++ (decimal told.spans ++ (codes " weight " ++ (decimal told.weight ++ (codes " ends" ++ ends_text (take told.spans ends)))))
answer_line call (Ok (Weight v)) n ends = codes "exact " ++ (decimal (asked call) ++ (codes " weight " ++ decimal v))
answer_line call (Err why) n ends = refused_line why

-- A command was performed: it asks for a call, the fit made that call and is left by it, with its lists, as the call
-- promises and as the law over runs says, and the text tells the answer.
pub record Performed {W : Type 0} (m : Ghosts W) (f f' : Fit W) (command : Spoken) (before : Lists) (text : List ℕ) : Type 0 where
  pub call : Call
  pub answer : Result Answer Refusal
  pub after : Lists
  pub asks : Asks command call
  pub did : Did m f call before answer f' after
  pub law : Law m f f' call before answer after
  pub tells : text ≡ answer_line call answer (size m f') after.ends
