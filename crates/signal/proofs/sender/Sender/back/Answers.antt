-- The TUI of the line is that of those sent.
use Rattle.std.proofs.Common.{◌≡◌, ℕ, ◌-◌, length, get_or, ap, ◌∙◌, arith}
use Rattle.signal.proofs.Sent.{sent_length, sent_tui}
use Rattle.signal.proofs.sender.Sender.back.Goals as goal

pub returns : goal.returns
returns c =
    let s = c.self.inside in
    let sent = c.args.self.now in
    let long = sent_length s.line sent s.sent (omega arith) c.self.invariant c.self.view_is in
    let place : s.sent - c.args.by ≡ length sent - c.args.by = omega arith in
    c.level_of.ensures ∙ sent_tui s.line sent s.sent (s.sent - c.args.by) c.self.view_is (omega arith)
    ∙ ap (λ (k : ℕ). get_or sent k 0) place
