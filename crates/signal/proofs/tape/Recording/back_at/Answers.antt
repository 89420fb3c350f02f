-- The pattern with the end zeros, or one of the two is missing.
use Rattle.signal.specs.Tape.{tui}
use Rattle.signal.proofs.Seen.{then_some_when, when_weaker}
use Rattle.signal.proofs.Patterned.{back_seen, back_pattern, back_zeros}
use Rattle.signal.proofs.tape.Recording.back_at.Goals as goal

pub returns-in_err-seed : goal.returns-in_err-seed
returns-in_err-seed c =
    rw c.from_residual.ensures (λ seed h s. c.in_err-seed.ensures seed (h, back_pattern (tui c.args.self.now) seed c.args.place s))

pub returns : goal.returns
returns c =
    let bits = tui c.args.self.now in
    let found = c.in_ok-seed.ensures in
    rw c.then_some.ensures (then_some_when c.stays.result c.in_ok-seed.seed _ _
    (when_weaker c.stays.result (λ zeros. (found.0, back_seen bits c.in_ok-seed.seed c.args.place found.1 zeros)) (λ no seed h s. no (back_zeros bits seed c.args.place s)) c.stays.ensures))
