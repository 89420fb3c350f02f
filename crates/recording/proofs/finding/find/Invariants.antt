-- No marker stands before the place looked at, and at it the TUI fit so far.
use Rattle.std.proofs.Common.{◌≡◌, ℕ, ◌+◌, ◌-◌, ◌<◌, ◌≤◌, get_or}
use Rattle.signal.specs.Signal.{marker}
use Rattle.signal.specs.Calls.{Marked}
use Rattle.signal.specs.Tape.{tui}
use Rattle.recording.proofs.finding.find.Given as goal

abbrev pub invariant-search : goal.invariant-search
invariant-search l = (l.start ≤ l.place) × ((q : ℕ) → l.start ≤ q → q < l.place → Marked (tui l.recording) q → ⊥)

abbrev pub invariant-loop-k : goal.invariant-loop-k
invariant-loop-k l = (l.place ≡ l.initial.place) × ((k : ℕ) → k < l.k → get_or (tui l.recording) (l.initial.place + k) 0 ≡ get_or marker k 0)

abbrev pub decreases-search : goal.decreases-search
decreases-search l = l.end - l.place
