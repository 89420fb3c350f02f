-- What a survey says of recordings.
use Rattle.std.specs.Prelude.{◌≡◌, ℕ, suc, List, [], ◌++◌, Ok, Result}
use Rattle.training.specs.declared.records.Control.{Control}
use Rattle.training.specs.declared.records.Status.{Status}
use Rattle.training.specs.declared.refusals.TrainingRefusal.{TrainingRefusal}
use Rattle.signal.specs.Calls.{Wrote, Sized}
use Rattle.recording.specs.declared.counts.Survey.{Survey}
use Rattle.recording.specs.Surveying.{Surveyed}

-- the rules allow no other answer
abbrev pub CountsOnce : List ℕ → Result Survey TrainingRefusal → Type 0
CountsOnce recording r = (other : Result Survey TrainingRefusal) → Surveyed recording other → other ≡ r

-- a recording of so many written signals, end to end
pub data EndToEnd : List ℕ → ℕ → Type 0 where
  none : EndToEnd [] 0
  more : {c : Control} {s : Status} {seed : ℕ} {before place rest : List ℕ} {k : ℕ}
      → Wrote c s seed before place (Ok tt) → EndToEnd rest k → EndToEnd (place ++ rest) (suc k)

-- each of them is counted as good, and nothing as bad
abbrev pub CountsSignals : List ℕ → Result Survey TrainingRefusal → Type 0
CountsSignals recording r = (k : ℕ) → EndToEnd recording k → Sized recording → r ≡ Ok (record { good = k; bad = 0 })
