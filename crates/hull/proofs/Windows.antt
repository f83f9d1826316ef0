-- What holds of every window of a list.
use Rattle.std.proofs.Common.{◌≡◌, ℕ, ◌+◌, ◌≤◌, List, length, get_or, take, drop, Option, Some, None, subst, ap, arith, Bor}
use Rattle.std.proofs.lemmas.Option.{none-some}
use Rattle.std.specs.Option.{IfSome, option_map}
use Rattle.std.specs.List.{IsSubsliceAt}
use Rattle.std.specs.Iterator.Runs.{Run, IsWindowsRun, AllItems}
use Rattle.std.specs.Bool.{IsTrue}

window_at : {A : Type 0} (xs : List A) (n k : ℕ) (d : A) (P : List A → Type 0) (item : Option (Bor (List A)))
    → IfSome item (λ x. (length x.now ≡ n) × (k + n ≤ length xs) × IsSubsliceAt n xs k x.now)
    → option_map (λ x. get_or x.now 0 d) item ≡ Some (get_or xs k d) → IfSome item (λ x. P x.now) → P (take n (drop k xs))
window_at xs n k d P None window there holds = absurd (none-some _ there)
window_at xs n k d P (Some x) window there holds = subst P window.2.0 holds

pub windows_hold : {S A : Type 0} {steps : S → Option (Bor (List A)) → S → Type 0} (p : Run steps) (size : ℕ) (rest : List A) → IsWindowsRun p size rest → IsTrue p.whole
    → (P : List A → Type 0) → AllItems p (λ x. P x.now) → (d : A) (n : ℕ) (xs : List A) → size ≡ n → rest ≡ xs → (k : ℕ) → k + n ≤ length xs → P (take n (drop k xs))
windows_hold p size rest windows whole P all d n xs same_size same_rest k inside =
    let long : length rest ≡ length xs = ap length same_rest in
    subst (λ m. P (take m (drop k xs))) same_size (subst (λ l. P (take size (drop k l))) same_rest
    (window_at rest size k d P (p.at k) (windows.2 k) (windows.3 k d (omega (arith, windows.1 whole))) (all k)))
