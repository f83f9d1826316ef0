-- Where the lines of an input begin and end, and what reading the next one answers.
use Rattle.std.specs.Prelude.{◌≡◌, ℕ, ◌+◌, ◌<◌, ◌≤◌, min, List, length, drop, Some, None, Ok, Err, Option, Result, ◌==◌}
use Rattle.std.specs.List.{before_first}
use Rattle.std.specs.Borrow.{Bor}
use Rattle.refusal.specs.declared.Refusal.{Refusal}
use Rattle.refusal.specs.Numbers.{number}
use Rattle.console.specs.Grammar.{Understood}

-- the bytes before the first stop, or all of them where there is none
abbrev pub before : ℕ → List ℕ → List ℕ
before stop = before_first (λ byte. byte == stop)

-- the line that begins at the place goes up to the next byte 10 or to the end of the input
abbrev pub line_at : List ℕ → ℕ → List ℕ
line_at input place = before 10 (drop place input)

-- the next line begins just behind that byte 10; behind the last line there is only the end
abbrev pub place_after : List ℕ → ℕ → ℕ
place_after input place = min (place + length (line_at input place) + 1) (length input)

-- the answer to the line at the place; there is none just if no bytes are left
abbrev pub Next : {Answer Said : Type 0} → (Answer → Said) → (List ℕ → Said → Type 0) → List ℕ → ℕ → Option (Result Answer Refusal) → Type 0
Next telling Saying input place (Some answer) = (place < length input) × Understood telling Saying (line_at input place) answer
Next telling Saying input place None = length input ≤ place

-- the bytes of the line at the place, or 14 if they are more than 80
abbrev pub BytesNext : List ℕ → ℕ → Option (Result (Bor (List ℕ)) Refusal) → Type 0
BytesNext input place (Some (Ok line)) = (place < length input) × (line.now ≡ line_at input place) × (length (line_at input place) ≤ 80)
BytesNext input place (Some (Err why)) = (place < length input) × (number why ≡ 14) × (80 < length (line_at input place))
BytesNext input place None = length input ≤ place
