-- Past bit 15 the number has none.
use Rattle.std.proofs.Common.{◌≡◌, ◌/◌, ◌%◌, ◌^◌, sym, ap, ◌∙◌, arith}
use Rattle.std.proofs.Math.Nat.{div-eq_of_lt}
use Rattle.std.proofs.Math.Pow.{pow_mono}
use Rattle.std.proofs.lemmas.Bool.{le-ltb}
use Rattle.std.specs.Int.{from_bool}
use Rattle.training.proofs.fields.bit.Goals as goal

pub returns-else-place-lt16 : goal.returns-else-place-lt16
returns-else-place-lt16 c =
    let large = pow_mono {i = 16} {j = c.args.place} (omega arith) in
    let fits = c.ranges.number.fits in
    let none : c.args.number / 2 ^ c.args.place ≡ 0 = div-eq_of_lt (omega (arith, large, fits)) in
    ap from_bool (le-ltb c.args.place 16 (omega arith)) ∙ sym (ap (λ x. x % 2) none)
