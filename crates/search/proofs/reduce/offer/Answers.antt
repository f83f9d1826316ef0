use Rattle.std.proofs.Common.{refl, arith, get_or-set_other}
use Rattle.search.specs.Levels.{nth}
use Rattle.search.proofs.Grid.{pass}
use Rattle.search.proofs.Standing.{level_lawful}
use Rattle.search.proofs.Lists.{pushed}
use Rattle.search.proofs.reduce.offer.Goals as goal

pub returns-then-top-level : goal.returns-then-top-level
returns-then-top-level g c =
    let whole = c.args.level.whole in
    let room = c.requires.stands.long in
    let met = g.met.S.Sheet in
    let d = c.driven-top.ensures.after in
    let top = c.driven-top.result in
    let few = d.reads.1 in
    let le = d.fewer in
    record {
      after = record {
        stack = pushed (level_lawful g.S.Sheet c.args.level.step c.requires.stands.fits met.irreflexive met.transitive met.weak met.monotone) c.args.room.now top c.args.column d.stack c.requires.inside (omega (arith, c.if-top-level.true)) (omega (arith, c.if-top-level.true)) d.lost;
        beyond = λ j l. get_or-set_other c.args.room.now top j c.args.column 0 (λ e. omega (arith, c.if-top-level.true));
        reads = (d.reads.0, omega arith, d.reads.2);
      };
    }

pub returns : goal.returns
returns g c =
    let whole = c.args.level.whole in
    let some = c.args.level.some in
    let met = g.met.S.Sheet in
    let d = c.driven-top.ensures.after in
    let few = d.reads.1 in
    let le = d.fewer in
    record {
      after = record {
        stack = pass (level_lawful g.S.Sheet c.args.level.step c.requires.stands.fits met.irreflexive met.transitive met.weak met.monotone) (nth c.args.room.now) c.driven-top.result c.args.column d.stack c.requires.inside (omega (arith, c.if-top-level.false)) (omega arith) d.lost;
        beyond = λ j l. refl;
        reads = (d.reads.0, omega arith, d.reads.2);
      };
    }
