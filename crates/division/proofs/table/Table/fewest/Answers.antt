use Rattle.std.proofs.Common.{rules, tests, ◌≡◌, ℕ, ◌≤◌, ◌<◌, ◌-◌, ◌+◌, Some}
use Rattle.std.proofs.iter.runs.Sources.{ranges}
use Rattle.division.specs.Tables.{tally_at}
use Rattle.division.proofs.Keys.{none_below, leftmost_by_key}
use Rattle.division.proofs.table.Table.fewest.Goals as goal

pub returns : goal.returns
returns c =
    let m = c.unwrap_or.result in
    let some : c.min_by_key.result ≡ Some c.unwrap_or.result = search (rules, ranges) in
    let low : 1 ≤ c.unwrap_or.result = search (rules, ranges) in
    let high : c.unwrap_or.result < 1 + c.args.k = search (rules, ranges) in
    let r = c.min_by_key.ensures.runs in
    let picked = rw some at r.3 in
    let place : (q : ℕ) → 1 ≤ q → q < 1 + c.args.k → r.0.at (q - 1) ≡ Some q = λ q a b. search (rules, ranges) in
    record { value = leftmost_by_key (λ q. tally_at c.args.self.now q c.args.n) c.args.k c.unwrap_or.result low high (λ q a b. none_below r.0 _ _ _ (λ x. (tally_at c.args.self.now x c.args.n, x)) m (search (rules, ranges)) (λ x j u called. search (rules, tests)) picked.1 (q - 1) q (place q a b)) }
