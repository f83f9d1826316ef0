use Rattle.std.proofs.Common.{◌≡◌, ℕ, ◌+◌, ◌-◌, ◌*◌, ◌/◌, ◌<◌, ◌≤◌, length, take, get_or, refl, sym, ap, ◌∙◌, subst, arith, div-mul-le_self, not-le_of_lt}
use Rattle.search.specs.Grid.{Grid}
use Rattle.search.specs.Least.{Leftmost}
use Rattle.search.specs.Levels.{nth}
use Rattle.search.specs.Steps.{HasPlace, grid_of}
use Rattle.search.proofs.Least.{leftmost_same, leftmost_from}
use Rattle.search.proofs.Reading.{read_none, read_more, place_there}
use Rattle.search.proofs.Kept.{not_falling}
use Rattle.search.proofs.Rows.{row_in, next_row}
use Rattle.search.proofs.Standing.{level_lawful, level_place, agrees_back}
use Rattle.search.proofs.Scans.{tail, turn, all_rows, reached, length-run, in_run, half_up, half_done, all_done}
use Rattle.search.proofs.scan.fill.Given as given
use Rattle.search.proofs.scan.fill.Goals as goal
use Rattle.search.proofs.scan.fill.Goals.{After-reach-end, then-p-level, else-p-level}

pub loop-p-init : goal.loop-p-init
loop-p-init g c =
    let m = g.S.Sheet in
    let s = c.args.sheet.now in
    let st = nth c.args.kept.now in
    let whole = c.args.level.whole in
    let holds = c.requires.keeps.holds in (
      c.requires.keeps.some,
      λ j l. absurd (omega arith),
      λ j l. c.requires.known j (omega arith),
      λ i k _ lt a. let w = holds.kept i k lt a in subst (λ x. st 0 ≤ x) w.2 (not_falling st (length c.args.kept.now) holds.rising 0 w.0 (omega arith) w.1),
      λ j _. refl,
      (0, omega arith, read_none m g.met.S.Sheet.stays g.met.S.Sheet.capped s),
    )

-- row i of a level is a row of the strip
row_at : (rows stride i : ℕ) → 0 < stride → i < rows / stride → (i + 1) * stride - 1 < rows
row_at rows stride i pos l = omega (arith, row_in i (rows / stride) stride pos l, div-mul-le_self rows stride)

-- the row of this turn
turns : (g : given.Over) (c : After-reach-end g) → 2 * c.loop-p.p < c.args.level.strip.rows / c.args.level.stride
turns g c = let l = half_up c.args.level.rows c.loop-p.p (omega (arith, c.loop-p-test.true, c.div_ceil-p-end.ensures)) in omega (arith, c.args.level.whole)

pub least_of-requires-clause-places : goal.least_of-requires-clause-places
least_of-requires-clause-places g c =
    let m = g.S.Sheet in
    let level = c.args.level in
    let before = (goal.at.least_of-requires-clause-places g c).After-reach-end in
    let lt = turns g before in
    let kept = c.args.kept.now in
    let place = c.loop-p.place in
    let low = c.loop-p.invariant.0 in
    let end = c.reach-end.result in
    let to = reached kept place low c.if-p-level.last end c.reach-end.ensures in
    let n = length-run kept place low end to.0 in
    λ j l. subst (HasPlace m c.loop-p.sheet _) (sym (in_run kept place low end j to.0 (omega arith))) (place_there m c.loop-p.invariant.5.2 (level_place m level.step c.requires.fits (2 * c.loop-p.p) _ lt (c.requires.keeps.holds.within (place + j) (omega arith))))

pub bounds-answers-at-in-loop-p : goal.bounds-answers-at-in-loop-p
bounds-answers-at-in-loop-p g c =
    let lt = turns g (goal.at.bounds-answers-at-in-loop-p g c).After-reach-end in
    omega (arith, row_at c.args.level.strip.rows c.args.level.stride (2 * c.loop-p.p) c.args.level.step lt, c.requires.long, c.loop-p.auto.answers)

pub loop-p-preserved : goal.loop-p-preserved
loop-p-preserved g c =
    let m = g.S.Sheet in
    let level = c.args.level in
    let stride = level.stride in
    let whole = level.whole in
    let lt = turns g (goal.at.loop-p-preserved g c).After-reach-end in
    let met = g.met.S.Sheet in
    let room : level.strip.rows / stride * stride ≤ length c.loop-p.answers = omega (arith, div-mul-le_self level.strip.rows stride, c.requires.long, c.loop-p.auto.answers) in
    let G : Grid g.row.S-Entry.Denot = grid_of m c.args.sheet.now level in
    let kept = c.args.kept.now in
    let st : ℕ → ℕ = nth kept in
    let p = c.loop-p.p in
    let place = c.loop-p.place in
    let inv = c.loop-p.invariant in
    let end = c.reach-end.result in
    let last = c.if-p-level.last in
    let to = reached kept place inv.0 last end c.reach-end.ensures in
    let run = length-run kept place inv.0 end to.0 in
    let after = c.least_of.ensures.after in
    let holds = c.requires.keeps.holds in
    let n : length (take (end + 1) (tail kept place inv.0)) ≡ (place + end) + 1 - place = omega arith in
    let scanned = leftmost_same {h = λ j. G.entry (2 * p) (st (place + j))}
    (λ j x y.
    let jl : j < end + 1 = omega arith in
    let jk : place + j < length kept = omega arith in
    ap (m.at c.loop-p.sheet _) (in_run kept place inv.0 end j to.0 jl) ∙ agrees_back m level.step c.requires.fits inv.5.2 (2 * p) (st (place + j)) lt (holds.within (place + j) jk))
    after.least.2 in
    let high = after.least.2.high in
    let least : (best : ℕ) × (c.least_of.result ≡ st best) × Leftmost G.before (λ j. G.entry (2 * p) (st j)) place ((place + end) + 1 - place) best = (place + after.least.0, after.least.1 ∙ in_run kept place inv.0 end after.least.0 to.0 (omega arith), subst (λ k. Leftmost G.before (λ j. G.entry (2 * p) (st j)) place k (place + after.least.0)) n (leftmost_from scanned)) in
    let next : 2 * p + 1 < G.rows → last ≡ get_or c.loop-p.answers ((2 * p + 1 + 1) * stride - 1) 0 =
    λ a. elim c.if-p-level.branch [
      | then-p-level w ↦ w.last-is ∙ ap (λ k. get_or c.loop-p.answers k 0) (next_row (2 * p) stride level.step)
      | else-p-level w ↦ absurd (not-le_of_lt {n = level.rows} {m = 2 * p + 1} (omega arith) w.if-p-level.false)
    ] in
    let final : G.rows ≤ 2 * p + 1 → last ≡ st (length kept - 1) =
    λ a. elim c.if-p-level.branch [
      | then-p-level w ↦ absurd (not-le_of_lt {n = level.rows} {m = 2 * p + 1} w.if-p-level.true (omega arith))
      | else-p-level w ↦ w.last-is
    ] in
    let t = turn (level_lawful m level.step c.requires.fits met.irreflexive met.transitive met.weak met.monotone) holds stride level.step c.loop-p.answers p place last c.least_of.result (place + end) lt room inv.2 inv.3 (omega arith) to.0 to.1 to.2 least next final c.args.answers.now inv.1 inv.4 in (
      to.0,
      t.0,
      t.1,
      t.2,
      t.3,
      (inv.5.0 + length (take (end + 1) (tail kept place inv.0)), omega (arith, inv.5.1, run), read_more m g.met.S.Sheet.onward inv.5.2 after.reads),
    )

pub returns : goal.returns
returns g c =
    let level = c.args.level in
    let whole = level.whole in
    let inv = c.loop-p.invariant in
    let met = g.met.S.Sheet in
    let few = inv.0 in
    let paid = inv.5.1 in
    let is = c.div_ceil-p-end.ensures in
    let done = half_done level.rows c.loop-p.p (omega (arith, c.loop-p.auto.p-end)) in
    let all = all_done level.rows c.loop-p.p (omega (arith, c.loop-p-test.false)) in
    record {
      after = record {
        answers = all_rows (level_lawful g.S.Sheet level.step c.requires.fits met.irreflexive met.transitive met.weak met.monotone) c.requires.keeps.holds level.stride level.step c.loop-p.answers c.loop-p.p (omega arith) inv.1 inv.2;
        beyond = inv.4;
        reads = (inv.5.0, omega arith, inv.5.2);
      };
    }
