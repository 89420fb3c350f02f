-- The pieces that were sent make the back.
use Rattle.std.proofs.Common.{length, replicate, refl, ap, arith, length-append}
use Rattle.signal.specs.Signal.{pattern, back}
use Rattle.signal.proofs.Pattern.{length_pattern}
use Rattle.signal.proofs.Sent.{sent_more}
use Rattle.signal.proofs.sender.Sender.send_back.Goals as goal

pub returns : goal.returns
unfolding back
returns c =
    sent_more c.send_pattern.new.self c.send_level.new.self c.args.self.now (pattern c.args.seed 4094) (replicate 2 0) _ c.send_pattern.ensures c.send_level.ensures refl

pub send_level-requires : goal.send_level-requires
send_level-requires c =
    omega (arith, ap length c.send_pattern.ensures, length-append c.args.self.now (pattern c.args.seed 4094), length_pattern c.args.seed 4094)
