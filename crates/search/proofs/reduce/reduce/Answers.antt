use Rattle.std.proofs.Common.{◌≡◌, ℕ, ◌+◌, ◌<◌, [], ◌∷◌, ◌++◌, length, sym, refl, ◌∙◌, subst, arith, length-append, get_or-set_other}
use Rattle.std.proofs.iter.Next.{Yields-more}
use Rattle.std.specs.Iterator.{AlwaysYields}
use Rattle.search.specs.Grid.{Stack, Column}
use Rattle.search.specs.Levels.{nth}
use Rattle.search.specs.Steps.{grid_of}
use Rattle.search.proofs.Reading.{read_none, read_more}
use Rattle.search.proofs.Kept.{upto, upto_in, first_offered, next_offered, upto_end}
use Rattle.search.proofs.Standing.{level_lawful, level_agrees, agrees_back}
use Rattle.search.proofs.Grid.{stack_same}
use Rattle.search.proofs.Lists.{counted, given_next, given_all}
use Rattle.search.proofs.reduce.reduce.Given as given
use Rattle.search.proofs.reduce.reduce.Goals as goal
use Rattle.search.proofs.reduce.reduce.Goals.{In-Some}

-- Behind the lifetimes `requires` has the clauses in their order: stands, can, ends, gives and holds.

-- the turn's column is the list's next one
next : (g : given.Over) (c : In-Some g) → (length c.loop-column.yielded < length g.offered) × (nth g.offered (length c.loop-column.yielded) ≡ c.in-Some.column)
next g c =
    let steps = g.I.Iterator.next_gives in
    let it = c.into_iter-column-iterator in
    let gives = subst (λ s. AlwaysYields steps {B = ℕ} (λ x. x) s g.offered) (sym it.ensures.into_iter_gives) c.requires.1.1.1.1.1.1.0 in
    given_next steps it.result g.offered gives c.loop-column.yielded c.in-Some.column c.next.new.self (Yields-more steps it.result c.loop-column.yielded c.loop-column.column-iterator c.in-Some.column c.next.new.self c.loop-column.yielded_by c.in-Some.ensures.steps)

pub loop-column-init : goal.loop-column-init
loop-column-init g c =
    let m = g.S.Sheet in
    let s = c.args.sheet.now in (
      first_offered (grid_of m s c.args.level) (nth g.offered) (length g.offered) c.requires.1.1.1.1.1.1.1 (nth c.args.room.now),
      λ j l. refl,
      (0, omega arith, read_none m g.met.S.Sheet.stays g.met.S.Sheet.capped s),
    )

pub offer-len-requires-clause-stack : goal.offer-len-requires-clause-stack
offer-len-requires-clause-stack g c =
    let m = g.S.Sheet in
    let inv = c.loop-column.invariant in
    let level = c.args.level in
    let n = next g (goal.at.offer-len-requires-clause-stack g c).In-Some in
    let G = grid_of m c.args.sheet.now level in
    let same = upto_in (nth g.offered) (level.strip.column + level.strip.columns) (length g.offered) (length c.loop-column.yielded) n.0 ∙ n.1 in
    stack_same G (level_agrees m level.step c.requires.1.1.1.0.fits inv.2.2) (subst (λ x. Stack G (nth c.loop-column.room) c.loop-column.len x) same inv.0)

pub offer-len-requires-clause-inside : goal.offer-len-requires-clause-inside
offer-len-requires-clause-inside g c =
    let n = next g (goal.at.offer-len-requires-clause-inside g c).In-Some in
    let col = c.requires.1.1.1.1.1.1.1.within (length c.loop-column.yielded) n.0 in
    subst (Column (grid_of g.S.Sheet c.loop-column.sheet c.args.level)) n.1 (record { low = col.low; high = col.high })

pub loop-column-preserved : goal.loop-column-preserved
loop-column-preserved g c =
    let m = g.S.Sheet in
    let inv = c.loop-column.invariant in
    let level = c.args.level in
    let fits = c.requires.1.1.1.0.fits in
    let holds = c.requires.1.1.1.1.1.1.1 in
    let n = next g (goal.at.loop-column-preserved g c).In-Some in
    let seen = length c.loop-column.yielded in
    let one : length (c.in-Some.column ∷ []) ≡ 1 = refl in
    let more : seen + 1 ≡ length (c.loop-column.yielded ++ c.in-Some.column ∷ []) = omega (arith, length-append c.loop-column.yielded (c.in-Some.column ∷ [])) in
    let G = grid_of m c.args.sheet.now level in
    let o = c.offer-len.ensures.after in
    let st = nth c.offer-len.new.room in
    let stack = stack_same G (agrees_back m level.step fits inv.2.2) o.stack in
    let before = inv.2.1 in
    let paid = o.reads.1 in (
      subst (λ k. Stack G st c.offer-len.result (upto (nth g.offered) (level.strip.column + level.strip.columns) (length g.offered) k)) more (next_offered G (nth g.offered) (length g.offered) holds st c.offer-len.result seen n.0 (subst (λ x. Stack G st c.offer-len.result (x + 1)) (sym n.1) stack)),
      λ j l. o.beyond j l ∙ inv.1 j l,
      (inv.2.0 + o.reads.0, omega arith, read_more m g.met.S.Sheet.onward inv.2.2 o.reads.2),
    )

pub returns : goal.returns
returns g c =
    let m = g.S.Sheet in
    let inv = c.loop-column.invariant in
    let level = c.args.level in
    let steps = g.I.Iterator.next_gives in
    let it = c.into_iter-column-iterator in
    let fits = c.requires.1.1.1.0.fits in
    let room = c.requires.1.1.1.0.long in
    let met = g.met.S.Sheet in
    let gives = subst (λ s. AlwaysYields steps {B = ℕ} (λ x. x) s g.offered) (sym it.ensures.into_iter_gives) c.requires.1.1.1.1.1.1.0 in
    let all = given_all steps it.result g.offered gives c.loop-column.yielded (c.next.new.self, (c.loop-column.column-iterator, c.loop-column.yielded_by, c.in-None.ensures.steps)) in
    let G = grid_of m c.args.sheet.now level in
    let end = upto_end (nth g.offered) (level.strip.column + level.strip.columns) (length g.offered) (length c.loop-column.yielded) (omega (arith, all)) in
    let stack = subst (λ x. Stack G (nth c.loop-column.room) c.loop-column.len x) end inv.0 in
    let kept = counted (level_lawful m level.step fits met.irreflexive met.transitive met.weak met.monotone) c.loop-column.room c.loop-column.len (omega (arith, level.whole, level.some)) fits.some_column (omega (arith, level.whole, c.loop-column.auto.room)) stack in
    let paid = inv.2.1 in
    record {
      after = record {
        kept = rw level.whole kept;
        beyond = λ j l. get_or-set_other c.loop-column.room level.rows j c.loop-column.len 0 (λ e. omega (arith, level.whole)) ∙ inv.1 j (omega (arith, level.whole));
        reads = (inv.2.0, omega arith, inv.2.2);
      };
    }
