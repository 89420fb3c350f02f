-- What is left to show of `value_at`.
use Rattle.std.proofs.Common.{get_or, sym, ap, ◌∙◌, arith}
use lib.Bits.{bit_xor}
use Rattle.field.specs.Field.{mul}
use Rattle.reed_solomon.proofs.Rests.{value_more, value_none}
use Rattle.reed_solomon.proofs.syndromes.value_at.Goals as goal

pub loop-symbol-init : goal.loop-symbol-init
loop-symbol-init c = sym (value_none c.args.x)

pub loop-symbol-preserved : goal.loop-symbol-preserved
loop-symbol-preserved c =
    ap (bit_xor (get_or c.args.rest.now c.loop-symbol.symbol-index 0)) (c.product.ensures.value ∙ ap (mul c.args.x) c.loop-symbol.invariant)
    ∙ sym (value_more c.args.x c.args.rest.now c.loop-symbol.symbol-index (omega arith))
