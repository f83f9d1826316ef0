-- Numbers as they are written in a line: 1 to 6 digits without a leading zero, or `0`.
use Rattle.std.specs.Prelude.{◌≡◌, ℕ, ◌+◌, ◌-◌, ◌*◌, ◌^◌, ◌<◌, ◌≤◌, ◌⊎◌, List, [], ◌∷◌, length, slice_index, slice_index_or}

-- each byte is one of `0` to `9`
abbrev pub Digits : List ℕ → Type 0
Digits bytes = (i : ℕ) → i < length bytes → (48 ≤ slice_index bytes i) × (slice_index bytes i ≤ 57)

pub record Numeral (bytes : List ℕ) : Type 0 where
  pub some : 1 ≤ length bytes
  pub short : length bytes ≤ 6
  pub digits : Digits bytes
  pub no_leading_zero : slice_index_or bytes 0 0 ≡ 48 → length bytes ≡ 1

-- each digit counts ten to the number of digits behind it
abbrev pub value : List ℕ → ℕ
value [] = 0
value (digit ∷ behind) = (digit - 48) * 10 ^ length behind + value behind

-- what a numeral comes to, and 0 for any other bytes
abbrev pub NumberOf : List ℕ → ℕ → Type 0
NumberOf bytes n = (Numeral bytes × (n ≡ value bytes)) ⊎ ((Numeral bytes → ⊥) × (n ≡ 0))
