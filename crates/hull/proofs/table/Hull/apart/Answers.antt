-- The hull's corners are near, so the distance of two of them fits 64 bits.
-- The goals hold after different steps, whose types a shared lemma would have to write out: each finds what it needs anew.
use Rattle.std.proofs.Common.{to_z-of_z, w64, SFits, rules}
use Rattle.std.specs.Int.{w128}
use Rattle.hull.specs.Hulls.{corners_of}
use Rattle.hull.proofs.Gaps.{apart_fits}
use Rattle.hull.proofs.table.Hull.apart.Goals as goal

pub overflow_cast-result : goal.overflow_cast-result
overflow_cast-result c =
    let h = c.args.self.now in
    let is = rw c.corners-corners.ensures.value at c.distance.ensures.value in
    let wide : SFits w128 c.distance.result = search rules in
    simp to_z-of_z (rw is (apart_fits (corners_of h) h.near c.args.i c.args.j c.requires.0 c.requires.1))

pub returns : goal.returns
returns c =
    let h = c.args.self.now in
    let is = rw c.corners-corners.ensures.value at c.distance.ensures.value in
    let wide : SFits w128 c.distance.result = search rules in
    let narrow : SFits w64 c.distance.result = rw is (apart_fits (corners_of h) h.near c.args.i c.args.j c.requires.0 c.requires.1) in
    record { value = simp to_z-of_z is }
