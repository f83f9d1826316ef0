use Rattle.std.proofs.Common.{◌≡◌, ℕ, ◌+◌, ◌*◌, ◌/◌, ◌%◌, ◌^◌, ◌≤◌, sym, ap, refl, ◌∙◌, subst, arith, pow_pos}
use Rattle.std.proofs.lemmas.Nat.{one_shl}
use Rattle.search.specs.Levels.{Kept, every}
use Rattle.search.specs.Steps.{Deepened}
use Rattle.search.proofs.Reading.{read_none, read_more}
use Rattle.search.proofs.Depths.{halved, next_level, one_more, pow_next}
use Rattle.search.proofs.Standing.{level_agrees, agrees_back}
use Rattle.search.proofs.Grid.{keeps_same}
use Rattle.search.proofs.levels.lower.Given as given
use Rattle.search.proofs.levels.lower.Goals as goal
use Rattle.search.proofs.levels.lower.Goals.{In-loop-depth}

pub loop-depth-init : goal.loop-depth-init
loop-depth-init g c = (
  λ d l. let e : 0 ≡ d = omega arith in subst (λ k. Kept g.S.Sheet c.args.sheet.now c.args.strip (2 ^ k) c.args.work.now) e c.requires.kept,
  λ j l. refl,
  (0, omega arith, read_none g.S.Sheet g.met.S.Sheet.stays g.met.S.Sheet.capped c.args.sheet.now),
)

-- the turn's stride
stride : (g : given.Over) (c : In-loop-depth g) → (1 * 2 ^ c.loop-depth.depth) % 2 ^ 64 ≡ 2 ^ c.loop-depth.depth
stride g c = one_shl c.loop-depth.depth 64 (omega (arith, c.loop-depth-test.true, c.ilog2-last.ensures.bound))

pub deepen-requires-clause-below : goal.deepen-requires-clause-below
deepen-requires-clause-below g c =
    subst (λ k. k * 2 ≤ c.args.strip.rows) (sym (stride g (goal.at.deepen-requires-clause-below g c).In-loop-depth)) (next_level c.loop-depth-test.true c.ilog2-last.ensures.power_le)

pub deepen-requires-clause-kept : goal.deepen-requires-clause-kept
deepen-requires-clause-kept g c =
    let m = g.S.Sheet in
    let s = c.args.sheet.now in
    let d : ℕ = c.loop-depth.depth in
    let inv = c.loop-depth.invariant in
    subst (λ k. Kept m c.loop-depth.sheet c.args.strip k c.loop-depth.work) (sym (stride g (goal.at.deepen-requires-clause-kept g c).In-loop-depth)) (keeps_same (every m s c.args.strip (2 ^ d)) (level_agrees m (pow_pos d) c.requires.ready.fits inv.2.2) (inv.0 d (omega arith)))

bill : (a most n rows half : ℕ) → a + 8 * rows ≤ most → n ≤ 4 * rows → half ≡ rows / 2 → (a + n) + 8 * half ≤ most
bill a most n rows half x y z = omega arith

pub loop-depth-preserved : goal.loop-depth-preserved
loop-depth-preserved g c =
    let m = g.S.Sheet in
    let s = c.args.sheet.now in
    let strip = c.args.strip in
    let d : ℕ = c.loop-depth.depth in
    let inv = c.loop-depth.invariant in
    let below = next_level c.loop-depth-test.true c.ilog2-last.ensures.power_le in
    let made = subst (λ k. Deepened m c.loop-depth.sheet c.deepen.new.sheet strip k c.loop-depth.work c.deepen.new.work) (stride g (goal.at.loop-depth-preserved g c).In-loop-depth) c.deepen.ensures.after in
    let h = halved strip.rows (2 ^ d) (pow_pos d) below in
    let kept = keeps_same (every m s strip (2 ^ d * 2)) (agrees_back m (omega (arith, pow_pos d)) c.requires.ready.fits inv.2.2) made.kept in (
      one_more m s strip c.loop-depth.work c.deepen.new.work d below inv.0 made.same kept,
      λ j l. made.beyond j l ∙ inv.1 j l,
      (inv.2.0 + made.reads.0, bill inv.2.0 (8 * strip.rows) made.reads.0 (strip.rows / 2 ^ d) (strip.rows / 2 ^ (d + 1)) inv.2.1 made.reads.1 (ap (λ k. strip.rows / k) (pow_next d) ∙ h.half), read_more m g.met.S.Sheet.onward inv.2.2 made.reads.2),
    )
