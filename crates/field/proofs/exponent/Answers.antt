-- What is left to show of `exponent`.
use Rattle.std.proofs.Common.{◌≡◌, ℕ, ◌==◌, not, is_some, IfSome, MatchOption, Option, Some, None, subst, rules}
use lib.Bits.{and_mask, bit_and}
use Rattle.field.specs.Laws.{ExponentOf}
use Rattle.field.proofs.exponent.Goals as goal

-- nothing is answered of 0 only
answered : (e : ℕ) (r : Option ℕ) → is_some r ≡ not (e == 0) → IfSome r (ExponentOf e) → MatchOption r (e ≡ 0) (ExponentOf e)
answered e None is some = search rules
answered e (Some l) is some = some

pub returns : goal.returns
returns c =
    subst (λ (e : ℕ). MatchOption c.then.result (e ≡ 0) (ExponentOf e)) (and_mask c.args.a 10)
    (answered (bit_and c.args.a 1023) c.then.result c.then.ensures.variant (search rules))
