-- The level was sent as often as the loop has turned.
use Rattle.std.proofs.Common.{◌≡◌, ◌+◌, ◌++◌, length, replicate}
use Rattle.std.specs.Int.{from_bool}
use Rattle.signal.proofs.sender.Sender.send_level.Given as goal

abbrev pub invariant-loop : goal.invariant-loop
invariant-loop l = (length l.self ≡ length l.initial.self + l.counter) × (l.self ≡ l.initial.self ++ replicate l.counter (from_bool l.level))
