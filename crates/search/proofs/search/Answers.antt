use Rattle.std.proofs.Common.{◌≡◌, ℕ, ◌-◌, ◌^◌, refl, arith, pow_pos}
use Rattle.search.specs.Search.{Fits}
use Rattle.search.proofs.Standing.{fits_there, level_agrees}
use Rattle.search.specs.Levels.{every}
use Rattle.search.proofs.Grid.{keeps_same}
use Rattle.search.proofs.Depths.{searched}
use Rattle.search.proofs.search.Given as given
use Rattle.search.proofs.search.Goals as goal
use Rattle.search.proofs.search.Goals.{After-start}

-- what the strip's test found, of the sheet
fits : (g : given.Over) (c : After-start g) → Fits g.S.Sheet c.args.sheet.now c.args.strip
fits g c =
    let i = c.if-not-lies_in.ensures.decides.0 refl in
    let a = c.rows.ensures.value in
    let b = c.columns.ensures.value in
    let rows = i.rows_in in
    let columns = i.columns_in in
    record { some_row = i.some_row; some_column = i.some_column; rows_in = omega arith; columns_in = omega arith }

pub lower-last-requires-clause-kept : goal.lower-last-requires-clause-kept
lower-last-requires-clause-kept g c =
    let m = g.S.Sheet in
    let inside = fits g (goal.at.lower-last-requires-clause-kept g c).After-start in
    let a = c.start.ensures.after in
    keeps_same (every m c.args.sheet.now c.args.strip 1) (level_agrees m (omega arith) inside a.reads.2) a.kept

pub raise-requires-clause-levels : goal.raise-requires-clause-levels
raise-requires-clause-levels g c =
    let m = g.S.Sheet in
    let started = fits_there m c.start.ensures.after.reads.2 (fits g (goal.at.raise-requires-clause-levels g c).After-start) in
    let l = c.lower-last.ensures.after in
    λ d h. keeps_same (every m c.start.new.sheet c.args.strip (2 ^ d)) (level_agrees m (pow_pos d) started l.reads.2) (l.levels d h)

told : {a b x y : ℕ} → a ≡ x → b ≡ y → a - b ≡ x - y
told p q = omega arith

pub returns : goal.returns
returns g c =
    let m = g.S.Sheet in
    let met = g.met.S.Sheet in
    let inside = fits g (goal.at.returns g c).After-start in
    record {
      answer = (
        inside,
        record { for_answers = omega arith; for_work = omega arith },
        searched m inside met.onward (met.capped c.args.sheet.now) c.start.ensures.after c.lower-last.ensures.after c.raise.ensures.after (told c.ledger.ensures.value c.ledger-before.ensures.value),
      );
    }
