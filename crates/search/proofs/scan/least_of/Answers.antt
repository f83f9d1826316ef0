use Rattle.std.proofs.Common.{◌≡◌, ℕ, ◌+◌, ◌-◌, ◌<◌, length, take, drop, get_or, sym, ap, ◌∙◌, arith, get_or-take}
use Rattle.std.proofs.lemmas.Grind.{get_or_after_one}
use Rattle.search.specs.Levels.{nth}
use Rattle.search.proofs.Least.{WeakOrder, scan_takes, scan_keeps}
use Rattle.search.proofs.Reading.{read_more}
use Rattle.search.proofs.scan.least_of.Given as given
use Rattle.search.proofs.scan.least_of.Goals as goal
use Rattle.search.proofs.scan.least_of.Goals.{After-precedes, then-precedes, else-precedes}

order : (g : given.Over) → WeakOrder g.S.Sheet.before
order g = record { irreflexive = g.met.S.Sheet.irreflexive; transitive = g.met.S.Sheet.transitive; weak = g.met.S.Sheet.weak }

-- the turn's column is the one behind those that came
next : (g : given.Over) (c : After-precedes g) → (c.loop-column.column-index + 1 < length c.args.columns.now) × (get_or (take (length c.args.columns.now - 1) (drop 1 c.args.columns.now)) c.loop-column.column-index 0 ≡ nth c.args.columns.now (c.loop-column.column-index + 1))
next g c =
    let k = c.loop-column.column-index in
    let cols = c.args.columns.now in
    let l : k < length cols - 1 = omega (arith, c.loop-column-test.true) in
    let e : 1 + k ≡ k + 1 = omega arith in
    (omega arith, get_or-take (length cols - 1) (drop 1 cols) k 0 l ∙ get_or_after_one cols k 0 ∙ ap (λ j. get_or cols j 0) e)

-- what the turn's read gave, of the sheet as it was at first
here : (g : given.Over) (c : After-precedes g) → c.read-here.result ≡ g.S.Sheet.at c.args.sheet.now c.args.row (nth c.args.columns.now (c.loop-column.column-index + 1))
here g c =
    let n = next g c in
    let p = c.requires.places (c.loop-column.column-index + 1) n.0 in
    c.read-here.ensures.value ∙ ap (g.S.Sheet.at c.loop-column.sheet c.args.row) n.1 ∙ c.loop-column.invariant.2.at_same c.args.row _ p.row_in p.column_in

pub loop-column-preserved : goal.loop-column-preserved
loop-column-preserved g c =
    let m = g.S.Sheet in
    let inv = c.loop-column.invariant in
    let turn = (goal.at.loop-column-preserved g c).After-precedes in
    let k = c.loop-column.column-index in
    let n = next g turn in
    let f : ℕ → g.row.S-Entry.Denot = λ j. m.at c.args.sheet.now c.args.row (nth c.args.columns.now j) in
    let least : c.loop-column.least ≡ f inv.0.0 = inv.1 ∙ ap (m.at c.args.sheet.now c.args.row) inv.0.1 in (
      elim c.if-precedes.branch [
        | then-precedes w ↦ (k + 1, w.best-is ∙ n.1, scan_takes (order g) f (k + 1) inv.0.0 c.read-here.result c.loop-column.least inv.0.2 least (here g turn) (sym w.if-precedes.ensures.value))
        | else-precedes w ↦ (inv.0.0, w.best-is ∙ inv.0.1, scan_keeps (order g) f (k + 1) inv.0.0 c.read-here.result c.loop-column.least inv.0.2 least (here g turn) (sym w.if-precedes.ensures.value))
      ],
      elim c.if-precedes.branch [
        | then-precedes w ↦ w.least-is ∙ here g turn ∙ ap (m.at c.args.sheet.now c.args.row) (sym n.1 ∙ sym w.best-is)
        | else-precedes w ↦ w.least-is ∙ inv.1 ∙ ap (m.at c.args.sheet.now c.args.row) (sym w.best-is)
      ],
      read_more m g.met.S.Sheet.onward inv.2 c.read-here.ensures.after,
    )
