-- What each refusal means, as text.
use Rattle.std.specs.Prelude.{ℕ, List, codes}
use Rattle.refusal.specs.declared.Refusal.{Refusal}
use Rattle.refusal.specs.declared.Refusal.TheVariants.{Full, ReadingTooGreat, ReadingFalls, Misfit, NothingHeld, WrongSpans, NotSettled, NoSuchPlace, ListTooShort, WrongStrip, WrongCorners, CornerTooFar, NotConvex, NotUnderstood}

abbrev pub meaning : Refusal → List ℕ
meaning Full = codes "full"
meaning ReadingTooGreat = codes "reading too great"
meaning ReadingFalls = codes "reading falls"
meaning Misfit = codes "misfit"
meaning NothingHeld = codes "nothing held"
meaning WrongSpans = codes "wrong number of spans"
meaning NotSettled = codes "not settled"
meaning NoSuchPlace = codes "no such place"
meaning ListTooShort = codes "list too short"
meaning WrongStrip = codes "wrong strip"
meaning WrongCorners = codes "wrong number of corners"
meaning CornerTooFar = codes "corner too far out"
meaning NotConvex = codes "not strictly convex"
meaning NotUnderstood = codes "line not understood"
