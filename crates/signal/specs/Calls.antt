-- What writing and reading a signal answer, by the cases of the answer. Each refusal repeats what the earlier ones ruled out.
use Rattle.std.specs.Prelude.{◌≡◌, ℕ, ◌+◌, ◌*◌, ◌^◌, ◌<◌, ◌≤◌, List, length, Ok, Err, Result, ◌≢◌, slice_index}
use Rattle.training.specs.declared.records.Control.{Control}
use Rattle.training.specs.declared.records.Status.{Status}
use Rattle.training.specs.declared.records.Training.{Training}
use Rattle.training.specs.declared.refusals.TrainingRefusal.{TrainingRefusal}
use Rattle.training.specs.declared.refusals.TrainingRefusal.TheVariants.{Values, Seed, Length, Short, NoMarker, BrokenCell, Reserved, Pattern, NothingFound}
use Rattle.training.specs.Fields.{control_number, status_number, IsControl, IsStatus}
use Rattle.signal.specs.Signal.{bits_of, Stands, marker, cell, front, back, signal, IsSeed, signal_length, signal_bytes, recording_max}

-- Writing: the place before and after, and the answer

pub record Written (c : Control) (s : Status) (seed : ℕ) (before after : List ℕ) : Type 0 where
  pub seeded : IsSeed seed
  pub long : length before ≡ signal_bytes
  pub becomes : bits_of after ≡ signal c s seed

-- 52, then 53
abbrev pub WriteRefused : ℕ → List ℕ → TrainingRefusal → Type 0
WriteRefused seed before Seed = IsSeed seed → ⊥
WriteRefused seed before Length = IsSeed seed × (length before ≢ signal_bytes)
WriteRefused seed before Values = ⊥
WriteRefused seed before (Short p) = ⊥
WriteRefused seed before (NoMarker p) = ⊥
WriteRefused seed before (BrokenCell p) = ⊥
WriteRefused seed before (Reserved p) = ⊥
WriteRefused seed before (Pattern p) = ⊥
WriteRefused seed before (NothingFound p) = ⊥

abbrev pub Wrote : Control → Status → ℕ → List ℕ → List ℕ → Result Unit TrainingRefusal → Type 0
Wrote c s seed before after (Ok u) = Written c s seed before after
Wrote c s seed before after (Err e) = WriteRefused seed before e × (after ≡ before)

-- Reading, from TUI `start` of a recording on

abbrev pub Sized : List ℕ → Type 0
Sized recording = length recording ≤ recording_max

-- a whole signal fits there
abbrev pub Room : List ℕ → ℕ → Type 0
Room bits start = start + signal_length ≤ length bits

abbrev pub Marked : List ℕ → ℕ → Type 0
Marked bits start = Stands marker bits start

-- cell k after the marker carries the bit
abbrev pub Carries : List ℕ → ℕ → ℕ → ℕ → Type 0
Carries bits start k bit = Stands (cell (slice_index bits (start + 31 + 8 * k)) bit) bits (start + 32 + 8 * k)

-- one of the 32 cells carries no bit
abbrev pub Broken : List ℕ → ℕ → Type 0
Broken bits start = (k : ℕ) × (k < 32) × ((bit : ℕ) → Carries bits start k bit → ⊥)

-- the marker and two fields stand there
abbrev pub Fronted : List ℕ → ℕ → ℕ → ℕ → Type 0
Fronted bits start control status = (control < 2 ^ 16) × (status < 2 ^ 16) × Stands (front control status) bits start

-- the fields that stand there are not those of a control and a status record
abbrev pub Unmeant : List ℕ → ℕ → Type 0
Unmeant bits start = (control : ℕ) × (status : ℕ) × Fronted bits start control status × (IsControl control × IsStatus status → ⊥)

-- two records stand there, and no seed's pattern with the end zeros behind them
abbrev pub Unseeded : List ℕ → ℕ → Type 0
Unseeded bits start = (c : Control) × (s : Status) × Stands (front (control_number c) (status_number s)) bits start
    × ((seed : ℕ) → IsSeed seed → Stands (back seed) bits (start + 288) → ⊥)

pub record ReadOk (recording : List ℕ) (start : ℕ) (t : Training) : Type 0 where
  pub sized : Sized recording
  pub seeded : IsSeed t.seed
  pub stands : Stands (signal t.control t.status t.seed) (bits_of recording) start

-- 53, then 54 to 58
abbrev pub ReadRefused : List ℕ → ℕ → TrainingRefusal → Type 0
ReadRefused recording start Length = Sized recording → ⊥
ReadRefused recording start (Short p) = (p ≡ start) × Sized recording × (Room (bits_of recording) start → ⊥)
ReadRefused recording start (NoMarker p) = (p ≡ start) × Sized recording × Room (bits_of recording) start × (Marked (bits_of recording) start → ⊥)
ReadRefused recording start (BrokenCell p) = (p ≡ start) × Sized recording × Room (bits_of recording) start × Marked (bits_of recording) start × Broken (bits_of recording) start
ReadRefused recording start (Reserved p) = (p ≡ start) × Sized recording × Room (bits_of recording) start × Unmeant (bits_of recording) start
ReadRefused recording start (Pattern p) = (p ≡ start) × Sized recording × Room (bits_of recording) start × Unseeded (bits_of recording) start
ReadRefused recording start Values = ⊥
ReadRefused recording start Seed = ⊥
ReadRefused recording start (NothingFound p) = ⊥

abbrev pub Read : List ℕ → ℕ → Result Training TrainingRefusal → Type 0
Read recording start (Ok t) = ReadOk recording start t
Read recording start (Err e) = ReadRefused recording start e
