-- The number of each refusal, as the bench writes it.
use Rattle.std.specs.Prelude.{ℕ}
use Rattle.refusal.specs.declared.Refusal.{Refusal}
use Rattle.refusal.specs.declared.Refusal.TheVariants.{Full, ReadingTooGreat, ReadingFalls, Misfit, NothingHeld, WrongSpans, NotSettled, NoSuchPlace, ListTooShort, WrongStrip, WrongCorners, CornerTooFar, NotConvex, NotUnderstood}

abbrev pub number : Refusal → ℕ
number Full = 1
number ReadingTooGreat = 2
number ReadingFalls = 3
number Misfit = 4
number NothingHeld = 5
number WrongSpans = 6
number NotSettled = 7
number NoSuchPlace = 8
number ListTooShort = 9
number WrongStrip = 10
number WrongCorners = 11
number CornerTooFar = 12
number NotConvex = 13
number NotUnderstood = 14
