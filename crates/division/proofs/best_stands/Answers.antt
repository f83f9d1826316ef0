-- The two theorems on best divisions.
use Rattle.division.proofs.Divisions.{best_is_one, best_is_there}
use Rattle.division.proofs.best_stands.Goals as goal

pub returns : goal.returns
returns c = record { one = best_is_one; there = best_is_there }
