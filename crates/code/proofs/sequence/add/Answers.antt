-- Every place has its symbol of the list added.
use Rattle.std.proofs.Common.{arith}
use Rattle.code.specs.Sums.{plus_by_places}
use Rattle.code.proofs.sequence.add.Goals as goal

pub returns : goal.returns
returns c = plus_by_places c.args.line.now c.args.list.now c.loop-i.line (omega arith) c.requires (λ i h. c.loop-i.invariant.0 i (omega arith))
