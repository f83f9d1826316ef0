-- The quadrangle inequality follows from its instance at neighbouring ends.
use Rattle.std.specs.Prelude.{◌≡◌, ℕ, zero, suc, ◌+◌, ◌-◌, ◌<◌, ◌≤◌}
use Rattle.std.proofs.Common.{add-zero, arith}

-- what one more reading adds to a span falls as the span begins later
abbrev pub Step : (ℕ → ℕ → ℕ) → ℕ → Type 0
Step w n = (a b e : ℕ) → a < b → b < e → e < n → w a e + w b (e + 1) ≤ w a (e + 1) + w b e

by_steps : (w : ℕ → ℕ → ℕ) (n : ℕ) → Step w n → (a b c k : ℕ) → a < b → b < c → c + k ≤ n → w a c + w b (c + k) ≤ w a (c + k) + w b c
by_steps w n step a b c zero h1 h2 h3 = rw (add-zero c) (omega arith)
by_steps w n step a b c (suc k) h1 h2 h3 =
    let e : c + suc k ≡ c + k + 1 = omega arith in
    rw e (omega (arith, by_steps w n step a b c k h1 h2 (omega arith), step a b (c + k) h1 (omega arith) (omega arith)))

pub quadrangle_from_steps : (w : ℕ → ℕ → ℕ) (n : ℕ) → Step w n → (a b c d : ℕ) → a < b → b < c → c < d → d ≤ n → w a c + w b d ≤ w a d + w b c
quadrangle_from_steps w n step a b c d h1 h2 h3 h4 =
    let e : c + (d - c) ≡ d = omega arith in
    let at = by_steps w n step a b c (d - c) h1 h2 (omega arith) in
    rw e at at
