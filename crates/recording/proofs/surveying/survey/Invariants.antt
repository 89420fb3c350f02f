-- What is counted from here on adds to what was counted so far.
use Rattle.std.proofs.Common.{◌+◌, ◌-◌, ◌*◌, ◌≤◌, length}
use Rattle.signal.specs.Signal.{bits_of}
use Rattle.recording.proofs.Counting.{Adds}
use Rattle.recording.proofs.surveying.survey.Given as goal

abbrev pub invariant-loop-start : goal.invariant-loop-start
invariant-loop-start l = (l.place ≤ 8 * length l.recording) × (l.survey.good + l.survey.bad ≤ l.place)
    × Adds (bits_of l.recording) l.place l.survey.good l.survey.bad

abbrev pub decreases-loop-start : goal.decreases-loop-start
decreases-loop-start l = 8 * length l.recording - l.place
