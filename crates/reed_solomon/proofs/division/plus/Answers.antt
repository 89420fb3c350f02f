-- What is left to show of `plus`.
use Rattle.std.proofs.Common.{◌≡◌, ℕ, List, get_or, sym, ◌∙◌, arith, rules, ext_get_or}
use lib.Bits.{bit_xor}
use Rattle.reed_solomon_algebra.specs.Polynomials.{plus}
use Rattle.reed_solomon_algebra.proofs.Polynomials.{plus_at, plus_length}
use Rattle.code.proofs.FromFn.{filled_from}
use Rattle.reed_solomon.proofs.division.plus.Goals as goal

pub returns : goal.returns
returns c =
    let p : List ℕ = c.args.p.now in
    let q : List ℕ = c.args.q.now in
    let sum = λ (k : ℕ). bit_xor (get_or p k 0) (get_or q k 0) in
    ext_get_or 0 c.from_fn.result (plus p q) (omega (arith, plus_length p q (omega arith)))
    (λ k h. filled_from (λ (i y : ℕ). y ≡ sum i) (λ i y r called. search rules) c.from_fn.result 0 14 k 0 c.from_fn.ensures.items.each (omega arith) (omega arith)
    ∙ sym (plus_at p q k))
