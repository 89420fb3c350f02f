-- The number and the place of each refusal. A place is the TUI where the reading or the search began.
use Rattle.std.specs.Prelude.{ℕ}
use Rattle.training.specs.declared.refusals.TrainingRefusal.{TrainingRefusal}
use Rattle.training.specs.declared.refusals.TrainingRefusal.TheVariants.{Values, Seed, Length, Short, NoMarker, BrokenCell, Reserved, Pattern, NothingFound}

abbrev pub number_of : TrainingRefusal → ℕ
number_of Values = 51
number_of Seed = 52
number_of Length = 53
number_of (Short p) = 54
number_of (NoMarker p) = 55
number_of (BrokenCell p) = 56
number_of (Reserved p) = 57
number_of (Pattern p) = 58
number_of (NothingFound p) = 59

abbrev pub place_of : TrainingRefusal → ℕ
place_of Values = 0
place_of Seed = 0
place_of Length = 0
place_of (Short p) = p
place_of (NoMarker p) = p
place_of (BrokenCell p) = p
place_of (Reserved p) = p
place_of (Pattern p) = p
place_of (NothingFound p) = p
