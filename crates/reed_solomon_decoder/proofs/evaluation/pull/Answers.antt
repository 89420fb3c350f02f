-- What is left to show of `pull`.
use Rattle.std.proofs.Common.{◌≡◌, ℕ, ◌+◌, ◌≢◌, List, get_or, set, ap, ◌∙◌, ap₂, arith, length-set, get_or-set_other, get_or-set_same, below_more}
use lib.Bits.{bit_xor}
use Rattle.field.specs.Field.{mul}
use Rattle.reed_solomon_decoder.proofs.evaluation.pull.Goals as goal

pub loop-j-preserved : goal.loop-j-preserved
loop-j-preserved c =
    let old : List ℕ = c.args.sums.now in
    let now : List ℕ = c.loop-j.sums in
    let j = c.loop-j.j in
    let v : ℕ = bit_xor (get_or c.loop-j.sums (c.loop-j.j + 1) 0) c.product.result in (
      below_more (λ (i : ℕ). get_or (set now j v) i 0 ≡ bit_xor (get_or old (i + 1) 0) (mul c.args.x (get_or old i 0))) j
          (λ i h. let ne : i ≢ j = omega arith in get_or-set_other now j i v 0 ne ∙ c.loop-j.invariant.0 i h)
          (get_or-set_same now j v 0 (omega arith)
          ∙ ap₂ bit_xor (c.loop-j.invariant.1 (j + 1) (omega arith))
          (c.product.ensures.value ∙ ap (mul c.args.x) (c.loop-j.invariant.1 j (omega arith)))),
      (λ i h. let ne : i ≢ j = omega arith in get_or-set_other now j i v 0 ne ∙ c.loop-j.invariant.1 i (omega arith)),
      length-set now j v ∙ c.loop-j.invariant.2,
    )

pub returns : goal.returns
returns c i h = c.loop-j.invariant.0 i (omega arith)
