use Rattle.std.proofs.Common.{◌≡◌, ℕ, true, ◌+◌, ◌≤◌, length, rules, take, drop, pos, ap, ◌∙◌, arith}
use Rattle.std.proofs.lemmas.Option.{IfSome_then}
use Rattle.std.specs.Slice.Iter.{windows_rest, windows_size}
use Rattle.std.specs.Slice.ArrayWindows.{array_windows_parts}
use Rattle.hull.specs.Convex.{AllLeft, Passes}
use Rattle.hull.specs.Plane.{corner_at}
use Rattle.hull.proofs.Convex.{passes_suffice}
use Rattle.hull.proofs.Windows.{windows_hold}
use Rattle.hull.proofs.shape.all_left.Goals as goal

pub returns : goal.returns
returns c =
    let corners = c.args.corners.now in
    let P = corner_at corners in
    let sound : c.all.result ≡ true → AllLeft corners = λ e.
    let run = rw e at c.all.ensures.runs in
    let p = run.0 in
    let size : windows_size (array_windows_parts p.from) ≡ 3 = ap (λ s. windows_size (array_windows_parts s)) run.1 ∙ c.array_windows.ensures.size in
    let rest : windows_rest (array_windows_parts p.from) ≡ corners = ap (λ s. windows_rest (array_windows_parts s)) run.1 ∙ c.array_windows.ensures.rest in
    let windows = c.array_windows.ensures.runs p p.seen (omega (arith, size)) in
    let pass : (k : ℕ) → k + 3 ≤ length corners → Passes (P 0) (P 1) (take 3 (drop k corners)) =
    windows_hold p _ _ windows run.2.0 (Passes (P 0) (P 1)) (λ k. IfSome_then (p.at k) (run.2.1 (λ a r f q. search rules) k) (λ x q. search rules)) (record { x = pos 0; y = pos 0 }) 3 corners size rest in
    passes_suffice corners pass in
    record { decides = (sound, search rules) }
