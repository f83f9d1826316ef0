use Rattle.std.proofs.Common.{◌≡◌, ℕ, ◌+◌, ◌-◌, ◌*◌, ◌/◌, ◌^◌, ◌<◌, ◌≤◌, length, get_or, sym, ap, ◌∙◌, subst, arith, pow_pos}
use Rattle.std.proofs.Math.Nat.{div-div-eq-div-mul}
use Rattle.std.proofs.lemmas.Nat.{one_shl}
use Rattle.search.specs.Grid.{Answer, Keeps}
use Rattle.search.specs.Levels.{Shown, many, nth, every}
use Rattle.search.specs.Steps.{Filled}
use Rattle.search.proofs.Reading.{read_none}
use Rattle.search.proofs.Standing.{level_agrees}
use Rattle.search.proofs.Grid.{answer_same, keeps_same}
use Rattle.search.proofs.Depths.{Answered, of_level, few_levels, shown_keeps, none_answered, level_done, all_answered, odd_rows, pow_next}
use Rattle.search.proofs.levels.raise.Given as given
use Rattle.search.proofs.levels.raise.Goals as goal
use Rattle.search.proofs.levels.raise.Goals.{After-at-level, After-kept, After-fill}

pub loop-depth-init : goal.loop-depth-init
loop-depth-init g c = none_answered g.S.Sheet c.requires.one (read_none g.S.Sheet g.met.S.Sheet.stays g.met.S.Sheet.capped c.args.sheet.now)

pub overflow_shl-depth : goal.overflow_shl-depth
overflow_shl-depth g c = few_levels g.S.Sheet c.requires.ready.fits (g.met.S.Sheet.low c.args.sheet.now) c.requires.one c.loop-depth.auto.depth

-- the turn's stride
stride : (g : given.Over) (c : After-at-level g) → c.at-level.result.stride ≡ 2 ^ c.loop-depth.depth
stride g c = c.at-level.ensures.stride ∙ one_shl c.loop-depth.depth 64 (few_levels g.S.Sheet c.requires.ready.fits (g.met.S.Sheet.low c.args.sheet.now) c.requires.one c.loop-depth.auto.depth)

pub kept-requires-clause-few : goal.kept-requires-clause-few
kept-requires-clause-few g c =
    let e = stride g (goal.at.kept-requires-clause-few g c).After-at-level in
    let there = of_level (λ a i. many c.args.work.now a i ≤ a.rows / i) (sym c.at-level.ensures.strip) (sym e) (c.requires.levels c.loop-depth.depth c.loop-depth.auto.depth).few in
    omega (arith, there, c.at-level.result.whole)

-- the list of its columns, of the sheet as it was at first
shown : (g : given.Over) (c : After-kept g) → c.at-level.result.stride ≡ 2 ^ c.loop-depth.depth → Keeps (every g.S.Sheet c.args.sheet.now c.args.strip (2 ^ c.loop-depth.depth)) (nth c.kept.result.now) (length c.kept.result.now)
shown g c e = shown_keeps g.S.Sheet c.args.sheet.now c.args.strip (2 ^ c.loop-depth.depth) c.args.work.now c.kept.result.now (of_level (λ a i. Shown a i c.args.work.now c.kept.result.now) c.at-level.ensures.strip e c.kept.ensures) (c.requires.levels c.loop-depth.depth c.loop-depth.auto.depth)

pub fill-requires-clause-keeps : goal.fill-requires-clause-keeps
fill-requires-clause-keeps g c =
    let m = g.S.Sheet in
    let here = goal.at.fill-requires-clause-keeps g c in
    let e = stride g here.After-at-level in
    let d : ℕ = c.loop-depth.depth in
    let columns = c.kept.result.now in
    of_level (λ a i. Keeps (every m c.loop-depth.sheet a i) (nth columns) (length columns)) (sym c.at-level.ensures.strip) (sym e) (keeps_same (every m c.args.sheet.now c.args.strip (2 ^ d)) (level_agrees m (pow_pos d) c.requires.ready.fits c.loop-depth.invariant.reads.2) (shown g here.After-kept e))

pub fill-requires-clause-known : goal.fill-requires-clause-known
fill-requires-clause-known g c =
    let m = g.S.Sheet in
    let s = c.args.sheet.now in
    let t = c.loop-depth.sheet in
    let d : ℕ = c.loop-depth.depth in
    let strip = c.args.strip in
    let inv = c.loop-depth.invariant in
    let answers = c.loop-depth.answers in
    let whole = c.at-level.result.whole in
    let e = stride g (goal.at.fill-requires-clause-known g c).After-at-level in
    let agree = level_agrees m (pow_pos d) c.requires.ready.fits inv.reads.2 in
    let odd = odd_rows m s strip (2 ^ d) answers (sym (div-div-eq-div-mul strip.rows (2 ^ d) 2)) inv.answers in
    let known = of_level (λ a i. (j : ℕ) → 2 * j + 1 < a.rows / i → Answer (every m t a i) (2 * j + 1) (get_or answers ((2 * j + 1 + 1) * i - 1) 0)) (sym c.at-level.ensures.strip) (sym e) (λ j l. answer_same (every m s strip (2 ^ d)) agree (2 * j + 1) _ l (odd j l)) in
    λ j l. known j (omega arith)

-- what stands once this turn's level is filled
done : (g : given.Over) (c : After-fill g) → c.at-level.result.stride ≡ 2 ^ c.loop-depth.depth → Keeps (every g.S.Sheet c.args.sheet.now c.args.strip (2 ^ c.loop-depth.depth)) (nth c.kept.result.now) (length c.kept.result.now) → Answered g.S.Sheet c.args.sheet.now c.fill.new.sheet c.args.strip (2 ^ c.loop-depth.depth) c.args.answers.now c.fill.new.answers
done g c e keeps =
    let m = g.S.Sheet in
    let inv = c.loop-depth.invariant in
    level_done m (pow_pos c.loop-depth.depth) c.requires.ready.fits g.met.S.Sheet.onward inv.reads keeps.few inv.beyond (of_level (λ a i. Filled m c.loop-depth.sheet c.fill.new.sheet a i (length c.kept.result.now) c.loop-depth.answers c.fill.new.answers) c.at-level.ensures.strip e c.fill.ensures.after)

pub loop-depth-preserved : goal.loop-depth-preserved
loop-depth-preserved g c =
    let m = g.S.Sheet in
    let here = goal.at.loop-depth-preserved g c in
    let e = stride g here.After-at-level in
    let d : ℕ = c.loop-depth.depth in
    let up : d ≡ (d - 1) + 1 = omega (arith, c.if-depth-gt0.true) in
    subst (λ x. Answered m c.args.sheet.now c.fill.new.sheet c.args.strip x c.args.answers.now c.fill.new.answers) (ap (λ k. 2 ^ k) up ∙ pow_next (d - 1)) (done g here.After-fill e (shown g here.After-kept e))

pub returns-2 : goal.returns-2
returns-2 g c =
    let here = goal.at.returns-2 g c in
    let e = stride g here.After-at-level in
    let none : c.loop-depth.depth ≡ 0 = omega (arith, c.if-depth-gt0.false) in
    record { after = all_answered g.S.Sheet (ap (λ k. 2 ^ k) none) (done g here.After-fill e (shown g here.After-kept e)) }
