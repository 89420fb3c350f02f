-- What is left to show of `product`.
use Rattle.std.proofs.Common.{◌≡◌, ℕ, ◌+◌, ◌%◌, sym, ap, ◌∙◌, ap₂, rules}
use Rattle.field.specs.Field.{mul, pow}
use Rattle.field.specs.Laws.{ExponentOf}
use Rattle.field.proofs.Laws.{mul_zero_l, mul_zero_r, mul_mod_l, mul_mod_r}
use Rattle.field.proofs.Powers.{pow_add}
use Rattle.field.proofs.product.Goals as goal

zero_left : (a b : ℕ) → a % 1024 ≡ 0 → 0 ≡ mul a b
zero_left a b h = sym (sym (mul_mod_l a b) ∙ ap (λ (x : ℕ). mul x b) h ∙ mul_zero_l b)

zero_right : (a b : ℕ) → b % 1024 ≡ 0 → 0 ≡ mul a b
zero_right a b h = sym (sym (mul_mod_r a b) ∙ ap (mul a) h ∙ mul_zero_r a)

-- the exponents add up
of_exponents : (a b i j : ℕ) → ExponentOf (a % 1024) i → ExponentOf (b % 1024) j → pow 2 (i + j) ≡ mul a b
of_exponents a b i j x y = pow_add 2 i j ∙ ap₂ mul x.gives y.gives ∙ mul_mod_l a (b % 1024) ∙ mul_mod_r a b

pub returns-in_default-clause-value : goal.returns-in_default-clause-value
returns-in_default-clause-value c = zero_right c.args.a c.args.b c.in_default.ensures'

pub returns-in_default-2-clause-value : goal.returns-in_default-2-clause-value
returns-in_default-2-clause-value c = zero_left c.args.a c.args.b (search rules)

pub returns-in-Some-Some-clause-value : goal.returns-in-Some-Some-clause-value
returns-in-Some-Some-clause-value c =
    c.alpha_power.ensures.value ∙ of_exponents c.args.a c.args.b _ _ c.in-Some-Some.ensures c.in-Some-Some.ensures'
