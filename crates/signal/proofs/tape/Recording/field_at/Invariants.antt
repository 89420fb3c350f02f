-- The cells so far carry the bits of the number so far.
use Rattle.std.proofs.Common.{◌^◌, ◌<◌}
use Rattle.signal.specs.Signal.{Stands, cells, highest_first}
use Rattle.signal.specs.Tape.{tui}
use Rattle.signal.specs.Inner.{level_before}
use Rattle.signal.proofs.tape.Recording.field_at.Given as goal

abbrev pub invariant-loop-k : goal.invariant-loop-k
invariant-loop-k l = (l.field < 2 ^ l.k) × Stands (cells (level_before (tui l.self) l.place) (highest_first l.k l.field)) (tui l.self) l.place
