-- The table has the powers below 1,023, and the exponents count modulo 1,023.
use Rattle.std.proofs.Common.{◌≡◌, ℕ, ◌<◌, ◌%◌, sym, ◌∙◌, subst, arith}
use Rattle.field.specs.Field.{pow}
use Rattle.field.proofs.Powers.{alpha_laws, pow_lt}
use Rattle.field.proofs.Logs.{powers_at, pow_mod}
use Rattle.field.proofs.alpha_power.Goals as goal

small : (r i : ℕ) → r ≡ pow 2 i → r < 1024
small r i e = subst (λ (x : ℕ). x < 1024) (sym e) (pow_lt 2 i)

pub returns : goal.returns
returns c =
    let i = c.args.i in
    record { value = powers_at (i % 1023) (omega arith) ∙ pow_mod i; small = small _ i (powers_at (i % 1023) (omega arith) ∙ pow_mod i); laws = alpha_laws }
