use Rattle.std.proofs.Common.{◌≡◌, ◌+◌, ◌-◌, ◌/◌, length, sym, refl, subst, arith, rules, div-one}
use Rattle.std.proofs.iter.Yields.{Range-gives}
use Rattle.std.specs.List.{range_with_len}
use Rattle.search.specs.Search.{Fits}
use Rattle.search.specs.Grid.{Holds}
use Rattle.search.specs.Levels.{nth, every}
use Rattle.search.specs.Steps.{Reduced}
use Rattle.search.proofs.Depths.{of_level, base_is, made}
use Rattle.search.proofs.Lists.{all_columns}
use Rattle.search.proofs.levels.start.Goals as goal

pub reduce-requires : goal.reduce-requires
reduce-requires g c κs within =
    let m = g.S.Sheet in
    let s = c.args.sheet.now in
    let strip = c.args.strip in
    let level = c.at-level.result in
    let is = c.at-level.ensures in
    let all = range_with_len strip.column (strip.column + strip.columns - strip.column) in
    let holds = all_columns (every m s strip level.stride) (strip.column + strip.columns) refl in
    let is_base = base_is is.strip is.stride c.base-base.ensures in
    let rows : level.rows ≡ strip.rows / 1 = of_level (λ a i. level.rows ≡ a.rows / i) is.strip is.stride level.whole in
    (within.0, ((λ a l. search rules), (within.1, (record { fits = subst (λ x. Fits m s x) (sym is.strip) c.requires.ready.fits; long = omega (arith, c.split_at_mut-room.ensures.back_len, c.requires.ready.room, div-one strip.rows, level.some) }, (tt, (tt, (Range-gives _, subst (λ x. Holds (every m s x level.stride) (nth all) (length all)) (sym is.strip) holds.0)))))))

pub returns : goal.returns
returns g c =
    let m = g.S.Sheet in
    let s = c.args.sheet.now in
    let strip = c.args.strip in
    let is = c.at-level.ensures in
    let is_base = base_is is.strip is.stride c.base-base.ensures in
    let count = (all_columns (every m s strip 1) (strip.column + strip.columns) refl).1 in
    let split = c.split_at_mut-room.ensures in
    let r = of_level (λ a i. Reduced m s c.reduce.new.sheet a i c.split_at_mut-room.result.1.now c.reduce.new.room (length (range_with_len strip.column (strip.column + strip.columns - strip.column)))) is.strip is.stride c.reduce.ensures.after in
    let level = made m c.split_at_mut-room.result.0.now is_base split.value split.front_len r in
    record { after = record { kept = level.kept; beyond = level.beyond; reads = (r.reads.0, omega (arith, r.reads.1), r.reads.2) } }
