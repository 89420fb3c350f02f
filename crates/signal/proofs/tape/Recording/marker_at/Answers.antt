-- The marker is its ones and its zeros.
use Rattle.signal.specs.Signal.{Stands, marker}
use Rattle.signal.specs.Tape.{tui}
use Rattle.signal.proofs.Seen.{when_weaker, false_when, marker_seen, marker_ones, marker_zeros}
use Rattle.signal.proofs.tape.Recording.marker_at.Goals as goal

pub returns-then-stays : goal.returns-then-stays
returns-then-stays c =
    let bits = tui c.args.self.now in
    let p = c.args.place in
    when_weaker c.stays-then-stays.result (marker_seen bits p c.if-stays.ensures) (λ no. λ s. no (marker_zeros bits p s)) c.stays-then-stays.ensures

pub returns-else-stays : goal.returns-else-stays
returns-else-stays c =
    false_when c.stays.result (Stands marker (tui c.args.self.now) c.args.place) c.if-stays.false (λ s. c.if-stays.ensures (marker_ones (tui c.args.self.now) c.args.place s))
