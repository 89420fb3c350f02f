-- What is left to show of `power`.
use Rattle.std.proofs.Common.{◌-◌, sym, ap, ◌∙◌, arith}
use Rattle.field.specs.Field.{pow}
use Rattle.reed_solomon_algebra.proofs.Locators.{pow_pow}
use Rattle.reed_solomon_decoder.proofs.line.Place.power.Goals as goal

pub returns : goal.returns
returns c = c.alpha_power.ensures.value ∙ ap (pow 2) (omega arith) ∙ sym (pow_pow 2 (527 - c.args.self.index) c.args.j)
