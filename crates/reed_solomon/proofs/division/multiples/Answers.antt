-- What is left to show of `multiples`.
use Rattle.std.proofs.Common.{◌≡◌, ℕ, [], get_or, ◌%◌, ◌/◌, ◌*◌, ap, ap₂, ◌∙◌, mod-lt, mul-one, arith, lit<}
use Rattle.field.specs.Field.{mul, mul_lowest, times_x}
use Rattle.reed_solomon_algebra.specs.Polynomials.{plus, scale}
use Rattle.reed_solomon_algebra.specs.Division.{below_first}
use Rattle.reed_solomon.proofs.Multiples.{coefficients, multiples, row_at, scale_halves}
use Rattle.reed_solomon.proofs.division.multiples.Goals as goal

pub returns : goal.returns
unfolding scale mul mul_lowest times_x
returns c =
    let f = c.args.factor in
    let row = λ (unit j : ℕ). get_or (multiples 32 unit 0 coefficients) j [] in
    let low : row 1 c.from.result ≡ scale (f % 32) (below_first 14) =
    ap (row 1) c.from.ensures ∙ row_at 1 (f % 32) (mod-lt f (lit< tt)) ∙ ap (λ (x : ℕ). scale x (below_first 14)) (mul-one (f % 32)) in
    let high : row 32 c.from-2.result ≡ scale (f / 32 * 32) (below_first 14) = ap (row 32) c.from-2.ensures ∙ row_at 32 (f / 32) (omega arith) in
    c.plus.ensures ∙ ap₂ plus low high ∙ scale_halves f (below_first 14)
