-- The pattern of the seed stands there as far as it was compared.
use Rattle.std.proofs.Common.{◌+◌, ◌-◌, ◌≤◌}
use Rattle.signal.specs.Signal.{Stands, pattern}
use Rattle.signal.specs.Tape.{tui}
use Rattle.signal.proofs.tape.Recording.pattern_at.Given as goal

abbrev pub invariant-loop-at : goal.invariant-loop-at
invariant-loop-at l = (l.place + 11 ≤ l.at) × Stands (pattern l.seed (l.at - l.place)) (tui l.self) l.place
