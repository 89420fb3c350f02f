-- The bits from the last one down stand there.
use Rattle.std.proofs.Common.{◌+◌, ◌-◌, ◌^◌, ◌<◌, ◌≤◌}
use Rattle.signal.specs.Signal.{Stands, least_first}
use Rattle.signal.specs.Tape.{tui}
use Rattle.signal.proofs.tape.Recording.seed_at.Given as goal

abbrev pub invariant-loop-at : goal.invariant-loop-at
invariant-loop-at l = (l.place ≤ l.at) × (l.seed < 2 ^ (l.place + 11 - l.at)) × Stands (least_first (l.place + 11 - l.at) l.seed) (tui l.self) l.at
