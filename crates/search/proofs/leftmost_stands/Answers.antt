use Rattle.search.proofs.Least.{leftmost_exists, leftmost_unique}
use Rattle.search.proofs.leftmost_stands.Goals as goal

pub returns : goal.returns
returns g c =
    let met = g.met.S.Sheet in
    record {
      there = leftmost_exists (record { irreflexive = met.irreflexive; transitive = met.transitive; weak = met.weak });
      one = λ f first count a b. leftmost_unique;
    }
