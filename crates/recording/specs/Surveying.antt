-- The good and the bad signals of a recording, counted from marker to marker.
use Rattle.std.specs.Prelude.{◌≡◌, ℕ, suc, ◌+◌, List, Ok, Err, Result}
use Rattle.training.specs.declared.records.Control.{Control}
use Rattle.training.specs.declared.records.Status.{Status}
use Rattle.training.specs.declared.refusals.TrainingRefusal.{TrainingRefusal}
use Rattle.training.specs.declared.refusals.TrainingRefusal.TheVariants.{Length}
use Rattle.signal.specs.Signal.{bits_of, Stands, signal, signal_length, IsSeed}
use Rattle.signal.specs.Calls.{Sized}
use Rattle.recording.specs.declared.counts.Survey.{Survey}
use Rattle.recording.specs.Finding.{FirstMarker, Markerless}

-- the signal of a control record, a status record and a seed stands there
abbrev pub Good : List ℕ → ℕ → Type 0
Good bits p = (c : Control) × (s : Status) × (seed : ℕ) × IsSeed seed × Stands (signal c s seed) bits p

-- from a place on: a good signal is passed whole, a bad one by its marker
pub data Counted (bits : List ℕ) : ℕ → ℕ → ℕ → Type 0 where
  over : {from : ℕ} → Markerless bits from → Counted bits from 0 0
  good : {from p goods bads : ℕ} → FirstMarker bits from p → Good bits p → Counted bits (p + signal_length) goods bads → Counted bits from (suc goods) bads
  bad : {from p goods bads : ℕ} → FirstMarker bits from p → (Good bits p → ⊥) → Counted bits (p + 32) goods bads → Counted bits from goods (suc bads)

-- the only refusal is 53
abbrev pub Surveyed : List ℕ → Result Survey TrainingRefusal → Type 0
Surveyed recording (Ok v) = Sized recording × Counted (bits_of recording) 0 v.good v.bad
Surveyed recording (Err e) = (e ≡ Length) × (Sized recording → ⊥)
