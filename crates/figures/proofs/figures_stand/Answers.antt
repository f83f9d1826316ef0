-- The theorem is shown in Figures.
use Rattle.figures.proofs.figures_stand.Goals as goal
use Rattle.figures.proofs.Figures.{figures_stand_lem}

pub returns : goal.returns
returns c = record { value = figures_stand_lem }
