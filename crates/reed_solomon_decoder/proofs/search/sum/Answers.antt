-- What is left to show of `sum`.
use Rattle.std.proofs.Common.{arith}
use Rattle.reed_solomon_decoder.proofs.Exponents.{sum_turn, sum_end}
use Rattle.reed_solomon_decoder.proofs.search.sum.Goals as goal

pub loop-term-preserved : goal.loop-term-preserved
loop-term-preserved c = sum_turn c.args.terms.now c.loop-term.term-index c.element-sum.result c.loop-term.sum _ _ (omega arith) c.element-sum.ensures c.loop-term.invariant

pub returns : goal.returns
returns c = sum_end c.args.terms.now c.loop-term.term-index c.loop-term.sum _ (omega arith) c.loop-term.invariant
