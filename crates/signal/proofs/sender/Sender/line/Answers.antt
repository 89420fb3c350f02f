-- When all TUI are sent, those sent are the whole line.
use Rattle.std.proofs.Common.{sym, ◌∙◌, arith, take_all}
use Rattle.signal.specs.Signal.{bits_of}
use Rattle.signal.proofs.Bits.{length_bits}
use Rattle.signal.proofs.Sent.{sent_length}
use Rattle.signal.proofs.sender.Sender.line.Goals as goal

pub returns : goal.returns
returns c =
    let s = c.self.inside in
    let long = sent_length s.line c.args.self s.sent (omega arith) c.self.invariant c.self.view_is in
    sym (take_all s.sent (bits_of s.line) (omega (arith, length_bits s.line))) ∙ c.self.view_is
