-- What the lines of a session say: their words with one space between them, and the digits of their numbers.
use Rattle.std.specs.Prelude.{◌≡◌, ℕ, ◌≤◌, List, ◌++◌, length, Ok, Err, codes, Result}
use Rattle.std.specs.Borrow.{Bor}
use Rattle.refusal.specs.declared.Refusal.{Refusal}
use Rattle.refusal.specs.Numbers.{number}
use Rattle.console.specs.Numerals.{Numeral}
use Rattle.console.specs.declared.command.Command.{Command}
use Rattle.console.specs.declared.command.Command.TheVariants.{Take, Drop, Wipe, Settle, Divide, Exact}
use Rattle.console.specs.declared.command.Opening.{Opening}
use Rattle.console.specs.declared.command.Opening.TheVariants.{Ceiling, Middle, Even}

-- a command, with the digits of its number
pub data Spoken : Type 0 where
  taking : List ℕ → Spoken
  dropping : Spoken
  wiping : Spoken
  settling : Spoken
  dividing : List ℕ → Spoken
  exacting : List ℕ → Spoken

-- the line says the command
abbrev pub Says : List ℕ → Spoken → Type 0
Says line (taking digits) = (line ≡ codes "take " ++ digits) × Numeral digits
Says line dropping = line ≡ codes "drop"
Says line wiping = line ≡ codes "wipe"
Says line settling = line ≡ codes "settle"
Says line (dividing digits) = (line ≡ codes "divide " ++ digits) × Numeral digits
Says line (exacting digits) = (line ≡ codes "exact " ++ digits) × Numeral digits

-- a kind of weighing, with the digits of its nominal length and of the limit of spans
pub data Opened : Type 0 where
  for_ceiling : List ℕ → Opened
  for_middle : List ℕ → Opened
  for_even : List ℕ → List ℕ → Opened

-- the line opens a session so
abbrev pub Opens : List ℕ → Opened → Type 0
Opens line (for_ceiling limit) = (line ≡ codes "open ceiling " ++ limit) × Numeral limit
Opens line (for_middle limit) = (line ≡ codes "open middle " ++ limit) × Numeral limit
Opens line (for_even long limit) = (line ≡ codes "open even " ++ (long ++ (codes " " ++ limit))) × Numeral long × Numeral limit

-- only a line of at most 80 bytes says anything
abbrev pub Short : {Said : Type 0} → (List ℕ → Said → Type 0) → List ℕ → Said → Type 0
Short Saying line said = (length line ≤ 80) × Saying line said

-- the answer to a line: what it says, and that it says nothing else; or 14, if it says nothing
abbrev pub Understood : {Answer Said : Type 0} → (Answer → Said) → (List ℕ → Said → Type 0) → List ℕ → Result Answer Refusal → Type 0
Understood {Said = Said} telling Saying line (Ok answer) = Saying line (telling answer) × ((other : Said) → Saying line other → other ≡ telling answer)
Understood {Said = Said} telling Saying line (Err why) = (number why ≡ 14) × ((said : Said) → Saying line said → ⊥)

-- a command as the code holds it, by the bytes that its number refers to
abbrev pub told : Command → Spoken
told (Take digits) = taking digits.now
told Drop = dropping
told Wipe = wiping
told Settle = settling
told (Divide digits) = dividing digits.now
told (Exact digits) = exacting digits.now

abbrev pub told_opening : Opening → Opened
told_opening (Ceiling limit) = for_ceiling limit.now
told_opening (Middle limit) = for_middle limit.now
told_opening (Even long limit) = for_even long.now limit.now

-- the bytes, if they are a numeral; or 14, if they are none
abbrev pub ReadNumeral : List ℕ → Result (Bor (List ℕ)) Refusal → Type 0
ReadNumeral bytes (Ok digits) = (digits.now ≡ bytes) × Numeral bytes
ReadNumeral bytes (Err why) = (number why ≡ 14) × (Numeral bytes → ⊥)

-- the two numbers, if the words are two numbers; or 14, if they are not
abbrev pub ReadTwo : List ℕ → Result (Bor (List ℕ) × Bor (List ℕ)) Refusal → Type 0
ReadTwo words (Ok both) = (words ≡ both.0.now ++ (codes " " ++ both.1.now)) × Numeral both.0.now × Numeral both.1.now
ReadTwo words (Err why) = (number why ≡ 14) × ((first second : List ℕ) → words ≡ first ++ (codes " " ++ second) → Numeral first → Numeral second → ⊥)
