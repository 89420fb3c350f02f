-- The first bits of the pattern were sent.
use Rattle.std.proofs.Common.{◌≡◌, ◌+◌, ◌++◌, length}
use Rattle.signal.specs.Signal.{pattern}
use Rattle.signal.proofs.sender.Sender.send_seed.Given as goal

abbrev pub invariant-loop-k : goal.invariant-loop-k
invariant-loop-k l = (length l.self ≡ length l.initial.self + l.k) × (l.self ≡ l.initial.self ++ pattern l.seed l.k)
