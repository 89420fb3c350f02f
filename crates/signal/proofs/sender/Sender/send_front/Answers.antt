-- The pieces that were sent make the front.
use Rattle.std.proofs.Common.{◌≡◌, ℕ, List, ◌++◌, replicate, ap, ◌∙◌}
use Rattle.signal.specs.Signal.{marker}
use Rattle.signal.proofs.Whole.{fronted}
use Rattle.signal.proofs.sender.Sender.send_front.Goals as goal

pub returns : goal.returns
unfolding marker
returns c =
    let ones : c.send_level.new.self ≡ replicate 16 1 = rw c.requires at c.send_level.ensures in
    let marked : c.send_level-2.new.self ≡ marker = c.send_level-2.ensures ∙ ap (λ (l : List ℕ). l ++ replicate 16 0) ones in
    fronted c.args.control c.args.status c.send_level-2.new.self c.send_field.new.self c.send_field-2.new.self
    marked c.send_field.ensures c.send_field-2.ensures
