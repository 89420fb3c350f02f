-- The cells of the first bits of the field were sent.
use Rattle.std.proofs.Common.{◌≡◌, ◌+◌, ◌-◌, ◌*◌, ◌++◌, length, take}
use Rattle.signal.specs.Signal.{cells, field}
use Rattle.signal.specs.Inner.{level_before}
use Rattle.signal.proofs.sender.Sender.send_field.Given as goal

abbrev pub invariant-loop-k : goal.invariant-loop-k
invariant-loop-k l =
    (length l.self ≡ length l.initial.self + 8 * (16 - l.k))
    × (l.self ≡ l.initial.self ++ cells (level_before l.initial.self (length l.initial.self)) (take (16 - l.k) (field l.field)))
