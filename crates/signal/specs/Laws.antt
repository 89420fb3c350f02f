-- What writing and reading have to do with each other.
use Rattle.std.specs.Prelude.{◌≡◌, ℕ, List, Ok, Result}
use Rattle.training.specs.declared.records.Control.{Control}
use Rattle.training.specs.declared.records.Status.{Status}
use Rattle.training.specs.declared.records.Training.{Training}
use Rattle.training.specs.declared.refusals.TrainingRefusal.{TrainingRefusal}
use Rattle.signal.specs.Signal.{bits_of, Stands}
use Rattle.signal.specs.Calls.{Wrote, Sized, Read}

-- a written signal, wherever it stands in a recording, reads back to the three that it was written from
abbrev pub ReadsBack : List ℕ → ℕ → Result Training TrainingRefusal → Type 0
ReadsBack recording start r = (c : Control) (s : Status) (seed : ℕ) (before after : List ℕ)
    → Wrote c s seed before after (Ok tt) → Sized recording → Stands (bits_of after) (bits_of recording) start
    → r ≡ Ok (record { control = c; status = s; seed = seed })

-- every signal that is read is the very one that is written from the answer
abbrev pub IsWritten : List ℕ → ℕ → Result Training TrainingRefusal → Type 0
IsWritten recording start r = (t : Training) (before after : List ℕ)
    → r ≡ Ok t → Wrote t.control t.status t.seed before after (Ok tt) → Stands (bits_of after) (bits_of recording) start

-- the rules allow no other answer
abbrev pub ReadsOnce : List ℕ → ℕ → Result Training TrainingRefusal → Type 0
ReadsOnce recording start r = (other : Result Training TrainingRefusal) → Read recording start other → other ≡ r
