-- One more sum of two bits of the pattern at each turn.
use Rattle.std.proofs.Common.{◌≡◌, ℕ, ◌+◌, ◌-◌, ◌%◌, length, get_or, sym, ap, ◌∙◌, arith, length-append}
use Rattle.std.proofs.lemmas.List.{length_push}
use Rattle.std.specs.Int.{from_bool}
use Rattle.signal.specs.Signal.{pattern}
use Rattle.signal.proofs.Levels.{differing}
use Rattle.signal.proofs.Pattern.{length_pattern, next_later}
use Rattle.signal.proofs.Sent.{sent_bit, pattern_back}
use Rattle.signal.proofs.sender.Sender.send_pattern.Goals as goal

pub loop-init : goal.loop-init
loop-init c =
    let long = ap length c.send_seed.ensures ∙ length-append c.args.self.now (pattern c.args.seed 11) in
    (omega (arith, length_pattern c.args.seed 11), c.send_seed.ensures)

pub loop-preserved : goal.loop-preserved
loop-preserved c =
    let k = c.loop.counter + 11 in
    let was = c.loop.self in
    let seed = c.args.seed in
    let bits = pattern seed k in
    let inv = c.loop.invariant.1 in
    let a = from_bool c.back.result in
    let b = from_bool c.back-in-loop.result in
    let nine : a ≡ get_or bits (k - 9) 0 = c.back.ensures ∙ pattern_back was c.args.self.now k seed 9 inv (omega arith) in
    let eleven : b ≡ get_or bits (k - 11) 0 = c.back-in-loop.ensures ∙ pattern_back was c.args.self.now k seed 11 inv (omega arith) in
    let next = differing c.back.result c.back-in-loop.result
    ∙ ap (λ (y : ℕ). (y + b) % 2) nine ∙ ap (λ (y : ℕ). (get_or bits (k - 9) 0 + y) % 2) eleven ∙ sym (next_later seed k bits (omega arith)) in
    let long = ap length c.send.ensures ∙ length_push was _ in
    let before = c.loop.invariant.0 in
    let turns : c.loop.counter + 1 + 11 ≡ k + 1 = omega arith in
    (omega arith, rw turns (sent_bit was c.send.new.self c.args.self.now k seed _ inv c.send.ensures next))
