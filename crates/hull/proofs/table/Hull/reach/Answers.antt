-- Each way of the code answers its part of the row.
use Rattle.std.proofs.Common.{◌%◌, ap, ◌∙◌, arith, to_z-of_z, w64, SFits, rules}
use Rattle.std.proofs.lemmas.Int.{ints}
use Rattle.hull.specs.Plane.{distance, corner_at}
use Rattle.hull.specs.Hulls.{corners_of}
use Rattle.hull.specs.ReachesLemmas.{reach_left, reach_around, reach_right}
use Rattle.hull.proofs.table.Hull.reach.Goals as goal

pub returns-then-j-i : goal.returns-then-j-i
returns-then-j-i c =
    record { value = rw (reach_left (corners_of c.args.self.now) c.args.i c.args.j (omega arith)) (omega (arith, ints)) }

pub returns-then-j-i-2 : goal.returns-then-j-i-2
returns-then-j-i-2 c =
    let cs = corners_of c.args.self.now in
    let fits : SFits w64 c.apart.result = search rules in
    record {
      value =
          rw (reach_around cs c.args.i c.args.j (omega arith) (omega arith))
          (to_z-of_z fits ∙ c.apart.ensures.value ∙ ap (λ n. distance (corner_at cs c.args.i) (corner_at cs (c.args.j % n))) c.count-n.ensures.value);
    }

pub returns-else-j-i-2 : goal.returns-else-j-i-2
returns-else-j-i-2 c =
    record { value = rw (reach_right (corners_of c.args.self.now) c.args.i c.args.j (omega arith) (omega arith)) }
