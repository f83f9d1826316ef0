-- One corner after the other, the greatest swing so far is kept.
use Rattle.std.proofs.Common.{◌≡◌, length, get_or, get_or-take, take, ap, ◌∙◌, arith, to_z-of_z, w64, SFits, rules, below_more}
use Rattle.std.proofs.lemmas.Slice.{between_from_start}
use Rattle.hull.specs.Hulls.{corners_of}
use Rattle.hull.proofs.Swinging.{greatest_next, greatest_of_all, greatest_is_widest}
use Rattle.hull.proofs.table.Hull.greatest_swing.Goals as goal

pub loop-i-preserved : goal.loop-i-preserved
loop-i-preserved c =
    let i = c.loop-i.i in
    let partners = c.args.partners.now in
    let found = rw (c.ok_or.ensures.ok_part, c.in_ok-listed.was) at c.get.ensures.lookup.0 in
    let first : c.in_ok-listed.listed.now ≡ take c.count.result partners = found.2 ∙ between_from_start partners c.count.result in
    let listed : get_or c.in_ok-listed.listed.now i 0 ≡ get_or partners i 0 = ap (λ l. get_or l i 0) first ∙ get_or-take c.count.result partners i 0 (omega (arith, found.3)) in
    let swing = rw listed at c.in_ok-d.ensures.answer in
    let fits : SFits w64 c.in_ok-d.d = search rules in
    let greatest_fits : SFits w64 c.max-greatest.result = search rules in (
      below_more _ _ c.loop-i.invariant.0 swing.1,
      simp to_z-of_z (rw (simp to_z-of_z at c.max-greatest.ensures.value) (greatest_next (corners_of c.args.self.now) partners i _ c.in_ok-d.d c.loop-i.invariant.1 swing.2)),
    )

pub returns : goal.returns
returns c =
    let cs = corners_of c.args.self.now in
    let enough = c.args.self.now.enough in
    let found = rw (c.ok_or.ensures.ok_part, c.in_ok-listed.was) at c.get.ensures.lookup.0 in
    let all : c.loop-i.i ≡ length cs = omega (arith, found.3, c.count.ensures.value) in
    let greatest = greatest_of_all cs c.args.partners.now (length cs) _ (rw all at c.loop-i.invariant.1) (omega arith) in
    record {
      answer = (λ i h. c.loop-i.invariant.0 i (omega arith), greatest);
      widest = greatest_is_widest cs c.args.partners.now _ greatest;
    }
