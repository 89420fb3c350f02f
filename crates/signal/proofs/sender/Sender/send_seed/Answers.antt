-- One more bit of the seed at each turn.
use Rattle.std.proofs.Common.{length, sym, ap, ◌∙◌, arith}
use Rattle.std.proofs.lemmas.List.{append-nil, length_push}
use Rattle.std.specs.Int.{from_bool}
use Rattle.signal.specs.Signal.{pattern}
use Rattle.signal.proofs.Pattern.{next_early}
use Rattle.signal.proofs.Sent.{sent_bit}
use Rattle.signal.proofs.sender.Sender.send_seed.Goals as goal

pub loop-k-init : goal.loop-k-init
unfolding pattern
loop-k-init c = (omega arith, sym (append-nil c.args.self.now))

pub loop-k-preserved : goal.loop-k-preserved
loop-k-preserved c =
    let k = c.loop-k.k in
    let was = c.loop-k.self in
    let bit = from_bool c.bit.result in
    let long = ap length c.send.ensures ∙ length_push was bit in
    let before = c.loop-k.invariant.0 in (
      omega arith,
      sent_bit was c.send.new.self c.args.self.now k c.args.seed bit c.loop-k.invariant.1 c.send.ensures
          (c.bit.ensures ∙ sym (next_early c.args.seed k (pattern c.args.seed k) (omega arith))),
    )
