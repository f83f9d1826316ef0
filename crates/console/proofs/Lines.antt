-- The bytes before a stop: they are a front, which the stop follows; and how a reader passes a line.
use Rattle.std.proofs.Common.{◌≡◌, ℕ, ◌+◌, ◌-◌, ◌==◌, List, ◌∷◌, ◌++◌, length, take, drop, sym, ap, ◌∙◌, Some}
use Rattle.std.specs.List.{position}
use Rattle.std.proofs.lemmas.List.{drop_more, take-append-drop, take_rest}
use Rattle.std.proofs.lemmas.List.Quantifiers.{position-Some}
use Rattle.std.proofs.lemmas.Bool.{eqb-true}

-- what the code takes of the bytes around the first stop
pub parted : (stop : ℕ) (bytes : List ℕ) (i : ℕ) → position (λ byte. byte == stop) bytes ≡ Some i → bytes ≡ take i bytes ++ (stop ∷ take (length bytes - (i + 1)) (drop (i + 1) bytes))
parted stop bytes i found =
    let at = position-Some (λ byte. byte == stop) bytes i 0 found in
    sym (take-append-drop i bytes) ∙ ap (λ rest. take i bytes ++ rest) (drop_more bytes i 0 at.0 ∙ ap (λ byte. byte ∷ drop (i + 1) bytes) (eqb-true _ _ at.1) ∙ ap (λ rest. stop ∷ rest) (sym (take_rest bytes (i + 1))))
