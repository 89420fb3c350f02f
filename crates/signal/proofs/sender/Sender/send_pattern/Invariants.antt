-- The first bits of the pattern were sent.
use Rattle.std.proofs.Common.{◌≡◌, ◌+◌, ◌++◌, length}
use Rattle.signal.specs.Signal.{pattern}
use Rattle.signal.proofs.sender.Sender.send_pattern.Given as goal

abbrev pub invariant-loop : goal.invariant-loop
invariant-loop l = (length l.self ≡ length l.fn.self + (l.counter + 11)) × (l.self ≡ l.fn.self ++ pattern l.seed (l.counter + 11))
