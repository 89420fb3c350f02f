-- What is left to show of `sum_of_powers`.
use Rattle.std.proofs.Common.{◌-◌, ap, ◌∙◌}
use Rattle.field.specs.Field.{mul, pow}
use Rattle.reed_solomon_decoder.proofs.Listed.{powers_turn, powers_end}
use Rattle.reed_solomon_decoder.proofs.evaluation.sum_of_powers.Goals as goal
use Rattle.reed_solomon_decoder.specs.declared.errors.Error.{Error}

pub loop-error-preserved : goal.loop-error-preserved
loop-error-preserved c =
    powers_turn 528 c.args.errors.now c.loop-error.error-index c.args.j c.loop-error.sum c.product-sum.result _ c.error-item.result c.loop-error-test.true
    (c.product-sum.ensures.value ∙ ap (mul c.error-item.result.value) c.power.ensures
    ∙ ap (λ (e : Error). mul e.value (pow (pow 2 (527 - e.place.index)) c.args.j)) c.error-item.is)
    c.loop-error.invariant

pub returns : goal.returns
returns c = powers_end 528 c.args.errors.now c.loop-error.error-index c.args.j c.loop-error.sum _ c.loop-error-test.false c.loop-error.invariant
