use Rattle.std.proofs.Common.{refl, inl, inr, rules}
use Rattle.hull.proofs.table.Hull.set.Goals as goal

pub returns-then-not-all_left : goal.returns-then-not-all_left
returns-then-not-all_left c = record { answer = (inr (search rules, inr (search rules, inl (search rules, refl))), refl) }
