-- What is left to show of `element`.
use Rattle.std.proofs.Common.{sym, ◌∙◌}
use Rattle.reed_solomon_decoder.proofs.Exponents.{term_power, term_none}
use Rattle.reed_solomon_decoder.proofs.search.Power.element.Goals as goal

pub returns-then-self-lt-ZERO : goal.returns-then-self-lt-ZERO
returns-then-self-lt-ZERO c = c.alpha_power.ensures.value ∙ sym (term_power c.self.inside.exponent c.if-self-lt-ZERO.true) ∙ c.self.view_is

pub returns-else-self-lt-ZERO : goal.returns-else-self-lt-ZERO
returns-else-self-lt-ZERO c = sym (term_none c.self.inside.exponent c.if-self-lt-ZERO.false) ∙ c.self.view_is
