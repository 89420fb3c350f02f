-- The first marker from a place of a recording on.
use Rattle.std.specs.Prelude.{◌≡◌, ℕ, ◌<◌, ◌≤◌, List, Ok, Err, Result}
use Rattle.training.specs.declared.refusals.TrainingRefusal.{TrainingRefusal}
use Rattle.training.specs.declared.refusals.TrainingRefusal.TheVariants.{Values, Seed, Length, Short, NoMarker, BrokenCell, Reserved, Pattern, NothingFound}
use Rattle.signal.specs.Signal.{bits_of}
use Rattle.signal.specs.Calls.{Sized, Marked}

-- p is the first place at or after `from` where all TUI of a marker stand
pub record FirstMarker (bits : List ℕ) (from p : ℕ) : Type 0 where
  pub after : from ≤ p
  pub marked : Marked bits p
  pub first : (q : ℕ) → from ≤ q → q < p → Marked bits q → ⊥

abbrev pub Markerless : List ℕ → ℕ → Type 0
Markerless bits from = (q : ℕ) → from ≤ q → Marked bits q → ⊥

-- 53, then 59
abbrev pub FindRefused : List ℕ → ℕ → TrainingRefusal → Type 0
FindRefused recording from Length = Sized recording → ⊥
FindRefused recording from (NothingFound p) = (p ≡ from) × Sized recording × Markerless (bits_of recording) from
FindRefused recording from Values = ⊥
FindRefused recording from Seed = ⊥
FindRefused recording from (Short p) = ⊥
FindRefused recording from (NoMarker p) = ⊥
FindRefused recording from (BrokenCell p) = ⊥
FindRefused recording from (Reserved p) = ⊥
FindRefused recording from (Pattern p) = ⊥

abbrev pub Found : List ℕ → ℕ → Result ℕ TrainingRefusal → Type 0
Found recording from (Ok p) = Sized recording × FirstMarker (bits_of recording) from p
Found recording from (Err e) = FindRefused recording from e
