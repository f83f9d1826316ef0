use Rattle.hull.specs.Hulls.{corners_of}
use Rattle.hull.specs.ReachesLemmas.{reaches_within}
use Rattle.hull.proofs.swings.Swings.over.Goals as goal

pub returns-clause-within : goal.returns-clause-within
returns-clause-within c =
    let h = c.args.hull.now in reaches_within (corners_of h) h.enough h.near
