use Rattle.std.proofs.Common.{◌≡◌, ◌+◌, ◌*◌, ◌/◌, ◌<◌, ◌≤◌, length, sym, ap, ◌∙◌, subst, arith, rules}
use Rattle.std.proofs.iter.Yields.{Copied-slice}
use Rattle.std.specs.Iterator.Adapters.{copied_source}
use Rattle.std.specs.Slice.Iter.{iter_rest}
use Rattle.search.specs.Search.{Fits}
use Rattle.search.specs.Grid.{Holds, Keeps}
use Rattle.search.specs.Levels.{Kept, Shown, nth, every, base_of, many}
use Rattle.search.specs.Steps.{Reduced}
use Rattle.search.proofs.Depths.{halved, of_level, base_is, made, holds_below, kept_before, shown_keeps}
use Rattle.search.proofs.levels.deepen.Given as given
use Rattle.search.proofs.levels.deepen.Goals as goal
use Rattle.search.proofs.levels.deepen.Goals.{After-split_at_mut-front, After-copied-columns}

-- the front of the work list has the columns of the level above
before : (g : given.Over) (c : After-split_at_mut-front g) → Kept g.S.Sheet c.args.sheet.now c.args.strip c.args.stride c.split_at_mut-front.result.0.now × (base_of c.args.strip c.args.stride + c.args.strip.rows / c.args.stride < length c.split_at_mut-front.result.0.now)
before g c =
    let split = c.split_at_mut-front.ensures in
    let is = c.at-level.ensures in
    kept_before g.S.Sheet c.args.sheet.now c.args.strip c.args.stride c.args.work.now c.split_at_mut-front.result.0.now c.split_at_mut-front.result.1.now c.requires.step c.requires.below split.value (split.front_len ∙ base_is is.strip is.stride c.base-base.ensures) c.requires.kept

pub kept-requires : goal.kept-requires
kept-requires g c =
    let front = c.split_at_mut-front.result.0.now in
    let b = before g (goal.at.kept-requires g c).After-split_at_mut-front in
    let is = c.at-above.ensures in
    let whole = c.at-above.result.whole in
    let there = of_level (λ a i. (base_of a i + a.rows / i < length front) × (many front a i ≤ a.rows / i)) (sym is.strip) (sym is.stride) (b.1, b.0.few) in
    record { room = omega (arith, there.0); few = omega (arith, there.1) }

-- and so has the list of them
shown : (g : given.Over) (c : After-copied-columns g) → Kept g.S.Sheet c.args.sheet.now c.args.strip c.args.stride c.split_at_mut-front.result.0.now → Keeps (every g.S.Sheet c.args.sheet.now c.args.strip c.args.stride) (nth (iter_rest (copied_source c.copied-columns.result))) (length (iter_rest (copied_source c.copied-columns.result)))
shown g c kept =
    let m = g.S.Sheet in
    let is = c.at-above.ensures in
    let s = of_level (λ a i. Shown a i c.split_at_mut-front.result.0.now c.kept.result.now) is.strip is.stride c.kept.ensures in
    subst (λ xs. Keeps (every m c.args.sheet.now c.args.strip c.args.stride) (nth xs) (length xs)) (sym (ap iter_rest c.copied-columns.ensures.source ∙ c.iter.ensures.rest)) (shown_keeps m c.args.sheet.now c.args.strip c.args.stride c.split_at_mut-front.result.0.now c.kept.result.now s kept)

pub reduce-requires : goal.reduce-requires
reduce-requires g c κs within =
    let m = g.S.Sheet in
    let s = c.args.sheet.now in
    let strip = c.args.strip in
    let stride = c.args.stride in
    let is = c.at-level.ensures in
    let h = halved strip.rows stride c.requires.step c.requires.below in
    let kept = shown g (goal.at.reduce-requires g c).After-copied-columns (before g (goal.at.reduce-requires g c).After-split_at_mut-front).0 in
    let columns = iter_rest (copied_source c.copied-columns.result) in
    let holds = holds_below m s strip stride (length columns) (nth columns) h.twice kept.holds in
    let is_base = base_is is.strip is.stride c.base-base.ensures in
    let rows : c.at-level.result.rows ≡ strip.rows / (stride * 2) = of_level (λ a i. c.at-level.result.rows ≡ a.rows / i) is.strip is.stride c.at-level.result.whole in
    (within.0, ((λ a l. search rules), (within.1, (record { fits = subst (λ x. Fits m s x) (sym is.strip) c.requires.ready.fits; long = omega (arith, c.split_at_mut-front.ensures.back_len, c.requires.ready.room, h.all, h.twice, h.one) }, (tt, (tt, (Copied-slice _, of_level (λ a i. Holds (every m s a i) (nth columns) (length columns)) (sym is.strip) (sym is.stride) holds)))))))

pub returns : goal.returns
returns g c =
    let m = g.S.Sheet in
    let s = c.args.sheet.now in
    let strip = c.args.strip in
    let is = c.at-level.ensures in
    let is_base = base_is is.strip is.stride c.base-base.ensures in
    let kept = shown g (goal.at.returns g c).After-copied-columns (before g (goal.at.returns g c).After-split_at_mut-front).0 in
    let few = kept.few in
    let split = c.split_at_mut-front.ensures in
    let r = of_level (λ a i. Reduced m s c.reduce.new.sheet a i c.split_at_mut-front.result.1.now c.reduce.new.room (length (iter_rest (copied_source c.copied-columns.result)))) is.strip is.stride c.reduce.ensures.after in
    let level = made m c.split_at_mut-front.result.0.now is_base split.value split.front_len r in
    record { after = record { kept = level.kept; same = level.same; beyond = level.beyond; reads = (r.reads.0, omega (arith, r.reads.1), r.reads.2) } }
