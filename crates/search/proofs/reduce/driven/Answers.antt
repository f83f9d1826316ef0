use Rattle.std.proofs.Common.{◌≡◌, ◌+◌, ◌-◌, ◌*◌, Bool, subst, arith}
use Rattle.search.specs.Grid.{Column, Stack}
use Rattle.search.specs.Levels.{nth}
use Rattle.search.specs.Steps.{Read, Driven, grid_of}
use Rattle.search.proofs.Reading.{read_more}
use Rattle.search.proofs.Grid.{pop_top, top_column}
use Rattle.search.proofs.Standing.{level_lawful, said_before}
use Rattle.search.proofs.reduce.driven.Given as given
use Rattle.search.proofs.reduce.driven.Goals as goal
use Rattle.search.proofs.reduce.driven.Goals.{After-row}

-- the topmost column is one of the grid's
on_top : (g : given.Over) (c : After-row g) → Column (grid_of g.S.Sheet c.args.sheet.now c.args.level) (nth c.args.room.now (c.loop-top.top - 1))
on_top g c = top_column (grid_of g.S.Sheet c.args.sheet.now c.args.level) (nth c.args.room.now) c.loop-top.top c.args.column c.loop-top-test.true c.loop-top.invariant.0

-- what the topmost column and the next one say of each other
said : (g : given.Over) (c : After-row g) (b : Bool) → b ≡ g.S.Sheet.before (g.S.Sheet.at c.loop-top.sheet c.row.result c.args.column) (g.S.Sheet.at c.loop-top.sheet c.row.result (nth c.args.room.now (c.loop-top.top - 1))) → let G = grid_of g.S.Sheet c.args.sheet.now c.args.level in G.before (G.entry (c.loop-top.top - 1) c.args.column) (G.entry (c.loop-top.top - 1) (nth c.args.room.now (c.loop-top.top - 1))) ≡ b
said g c b h =
    let f = c.loop-top.invariant.0.fits in
    said_before g.S.Sheet c.args.level.step c.requires.stands.fits c.loop-top.invariant.1 (c.loop-top.top - 1) _ c.args.column c.row.result (omega arith) (on_top g c) c.requires.inside c.row.ensures b h

pub returns-then-not-beats : goal.returns-then-not-beats
returns-then-not-beats g c =
    let m = g.S.Sheet in
    let inv = c.loop-top.invariant in
    let some = c.loop-top-test.true in
    let most = c.loop-top.auto.top in
    let e : c.loop-top.top ≡ c.loop-top.top - 1 + 1 = omega arith in
    let answer = c.if-not-beats.ensures in
    subst (λ top. record { after : Driven m c.args.sheet.now c.beats.new.sheet c.args.level c.args.room.now c.args.len c.args.column top }) e (record {
      after = record {
        fewer = most;
        stack = inv.0;
        lost = λ _. said g (goal.at.returns-then-not-beats g c).After-row _ answer.value;
        reads = (2 * (c.args.len - c.loop-top.top) + 2, omega arith, read_more m g.met.S.Sheet.onward inv.1 answer.after);
      };
    })

pub loop-top-preserved : goal.loop-top-preserved
loop-top-preserved g c =
    let m = g.S.Sheet in
    let inv = c.loop-top.invariant in
    let some = c.loop-top-test.true in
    let most = c.loop-top.auto.top in
    let met = g.met.S.Sheet in
    let e : 2 * (c.args.len - c.loop-top.top) + 2 ≡ 2 * (c.args.len - (c.loop-top.top - 1)) = omega arith in
    let answer = c.if-not-beats.ensures in (
      pop_top (level_lawful m c.args.level.step c.requires.stands.fits met.irreflexive met.transitive met.weak met.monotone) (nth c.args.room.now) c.loop-top.top c.args.column some inv.0 c.requires.inside (said g (goal.at.loop-top-preserved g c).After-row _ answer.value),
      subst (λ k. Read m k c.args.sheet.now c.beats.new.sheet) e (read_more m g.met.S.Sheet.onward inv.1 answer.after),
    )

pub returns : goal.returns
returns g c =
    let inv = c.loop-top.invariant in
    let none : c.loop-top.top ≡ 0 = omega (arith, c.loop-top-test.false) in
    record {
      after = record {
        fewer = omega arith;
        stack = subst (λ k. Stack (grid_of g.S.Sheet c.args.sheet.now c.args.level) (nth c.args.room.now) k c.args.column) none inv.0;
        lost = λ some. absurd (omega arith);
        reads = (2 * (c.args.len - c.loop-top.top), omega arith, inv.1);
      };
    }
