-- Both fields stand after the marker, or a cell of one is broken.
use Rattle.signal.specs.Tape.{tui}
use Rattle.signal.proofs.Carried.{fronted, broken_status}
use Rattle.signal.proofs.tape.Recording.fields_at.Goals as goal

pub returns-in_err-status : goal.returns-in_err-status
returns-in_err-status c =
    rw c.from_residual-in_err-status.ensures (broken_status (tui c.args.self.now) c.args.start c.in_err-status.ensures)

pub returns : goal.returns
returns c =
    fronted (tui c.args.self.now) c.args.start c.in_ok-control.control c.in_ok-status.status
    c.requires.1 c.in_ok-control.ensures c.in_ok-status.ensures
