-- The power is the inverse, and 0 has none.
use Rattle.std.proofs.Common.{◌≡◌, ◌%◌, sym, ap, ◌∙◌, lit<, arith}
use Rattle.field.specs.Field.{mul, inv}
use Rattle.field.proofs.Powers.{inv_mod, inv_zero, mul_inv, inverse_laws}
use Rattle.field.proofs.Logs.{inverse_power}
use Rattle.field.proofs.inverse.Goals as goal

pub returns-in-Some : goal.returns-in-Some
returns-in-Some c =
    let value = c.alpha_power.ensures.value ∙ inverse_power c.args.a c.in-Some.e c.in-Some.ensures in
    record { value = value; small = c.alpha_power.ensures.small; inverts = λ p h. ap (mul c.args.a) value ∙ mul_inv c.args.a p h; laws = inverse_laws }

pub returns-in-None : goal.returns-in-None
returns-in-None c =
    let none : c.args.a % 1024 ≡ 0 = c.in-None.ensures in
    let value : 0 ≡ inv c.args.a = sym inv_zero ∙ ap inv (sym none) ∙ inv_mod c.args.a in
    record { value = value; small = lit< tt; inverts = λ p h. absurd (omega (arith, none)); laws = inverse_laws }
