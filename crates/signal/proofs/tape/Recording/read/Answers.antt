-- The pieces that were seen make the signal.
use Rattle.std.proofs.Common.{ℕ, sym, subst}
use Rattle.training.specs.Fields.{control_number}
use Rattle.signal.specs.Signal.{Stands, front}
use Rattle.signal.specs.Tape.{tui}
use Rattle.signal.proofs.SignalParts.{signal_seen}
use Rattle.signal.proofs.tape.Recording.read.Goals as goal

pub returns : goal.returns
returns c =
    let bits = tui c.args.self.now in
    let control = c.in_ok-control-2.control in
    let status = c.in_ok-control-2.status in
    let stood = rw c.in_ok-control.ensures.ok_part at c.fields_at.ensures in
    let named = rw c.in_ok-control-2.ensures.ok_part at c.records_of.ensures in
    let found = rw c.in_ok-seed.ensures.ok_part at c.back_at.ensures in
    let one = subst (λ (n : ℕ). Stands (front n c.in_ok-control.status) bits c.args.start) (sym named.0) stood.2 in
    let both = subst (λ (n : ℕ). Stands (front (control_number control) n) bits c.args.start) (sym named.1) one in
    record { sized = c.args.self.now.sized; seeded = found.0; stands = signal_seen bits c.args.start control status c.in_ok-seed.seed both found.1 }
