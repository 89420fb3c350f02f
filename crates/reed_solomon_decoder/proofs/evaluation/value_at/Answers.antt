-- What is left to show of `value_at`.
use Rattle.std.proofs.Common.{◌≡◌, ℕ, suc, ◌+◌, ◌-◌, ◌≢◌, List, length, get_or, sym, refl, ap, ◌∙◌, ap₂, zero-add, add-one, arith}
use lib.Bits.{bit_xor}
use Rattle.field.specs.Field.{mul, inv, pow}
use Rattle.reed_solomon_algebra.specs.Terms.{power_sum}
use Rattle.reed_solomon_decoder.specs.Errors.{located, passed, weigh_by}
use Rattle.reed_solomon_decoder.specs.Listed.{indices}
use Rattle.reed_solomon_decoder.specs.declared.line.Place.{Place}
use Rattle.reed_solomon_decoder.proofs.Searching.{located_elements}
use Rattle.reed_solomon_decoder.proofs.Listed.{located_index, located_long}
use Rattle.reed_solomon_decoder.proofs.Values.{passed_more, passed_skip, pull_sum, skip_sum, start_sum, value_true}
use Rattle.reed_solomon_decoder.proofs.evaluation.value_at.Goals as goal
use Rattle.reed_solomon_decoder.proofs.evaluation.value_at.Goals.{then-k-i, else-k-i}

pub loop-k-init : goal.loop-k-init
unfolding passed
loop-k-init c = (
  refl,
  (λ e s sums j h. sums j (omega arith) ∙ ap (λ (n : ℕ). power_sum n e) (zero-add j) ∙ sym (start_sum (located 528 (indices c.args.places.now)) c.args.i j e s)),
  c.told-s,
)

pub loop-k-preserved : goal.loop-k-preserved
loop-k-preserved c =
    let xs : List ℕ = located 528 (indices c.args.places.now) in
    let i : ℕ = c.args.i in
    let k : ℕ = c.loop-k.k in
    let x : ℕ = get_or xs c.args.i 0 in
    let here : c.locator-here.result ≡ x = c.locator-here.ensures ∙ ap (λ (p : Place). pow 2 (527 - p.index)) c.index-places-i.is ∙ sym (located_index 528 c.args.places.now i _ c.requires.fits.0) in
    let there : pow 2 (527 - c.index-places-k.result.index) ≡ get_or xs c.loop-k.k 0 =
    ap (λ (p : Place). pow 2 (527 - p.index)) c.index-places-k.is ∙ sym (located_index 528 c.args.places.now k _ c.loop-k-test.true) in
    let up : suc k ≡ k + 1 = sym (add-one k) in
    elim c.if-k-i.branch [
      | then-k-i w ↦
          let ne : k ≢ i = w.if-k-i.true in (
            w.way'-is ∙ w.product-way.ensures.value ∙ ap₂ mul c.loop-k.invariant.0 (ap₂ bit_xor here (w.locator-other.ensures ∙ there))
                ∙ sym (passed_more xs i k x ne) ∙ ap (λ (n : ℕ). passed xs i n x) up,
            (λ e s sums j h.
                ap (λ (l : List ℕ). get_or l j 0) w.sums-is ∙ w.pull.ensures j (omega arith)
                ∙ ap₂ bit_xor
                (c.loop-k.invariant.1 e s sums (j + 1) (omega arith) ∙ ap (λ (n : ℕ). power_sum n (weigh_by (passed xs i k) e)) (add-one j))
                (ap₂ mul (w.locator-other.ensures ∙ there) (c.loop-k.invariant.1 e s sums j (omega arith)))
                ∙ sym (pull_sum xs i k j e ne) ∙ ap (λ (n : ℕ). power_sum j (weigh_by (passed xs i n) e)) up),
            ap length w.sums-is ∙ w.pull.array_long,
          )
      | else-k-i w ↦
          let eq : k ≡ i = w.if-k-i.false in (
            w.way'-is ∙ c.loop-k.invariant.0 ∙ sym (passed_skip xs i k x eq) ∙ ap (λ (n : ℕ). passed xs i n x) up,
            (λ e s sums j h.
                ap (λ (l : List ℕ). get_or l j 0) w.sums-is ∙ c.loop-k.invariant.1 e s sums j (omega arith)
                ∙ sym (skip_sum xs i k j e eq) ∙ ap (λ (n : ℕ). power_sum j (weigh_by (passed xs i n) e)) up),
            ap length w.sums-is ∙ c.loop-k.invariant.2,
          )
    ]

pub returns-clause-value : goal.returns-clause-value
returns-clause-value c e s cover sums =
    let xs : List ℕ = located 528 (indices c.args.places.now) in
    let i : ℕ = c.args.i in
    let long : length xs ≡ length c.args.places.now = located_long 528 c.args.places.now in
    let done : c.loop-k.k ≡ length xs = omega arith in
    let x : ℕ = get_or xs c.args.i 0 in
    c.product.ensures.value
    ∙ ap (mul (get_or c.loop-k.sums 0 0))
    (c.inverse.ensures.value ∙ ap inv (c.loop-k.invariant.0 ∙ ap (λ (n : ℕ). passed xs i n x) done))
    ∙ value_true xs i e (get_or c.loop-k.sums 0 0) (omega arith) (located_elements 528 (indices c.args.places.now)) c.requires.differ s cover
    (c.loop-k.invariant.1 e s sums 0 (omega arith) ∙ ap (λ (n : ℕ). power_sum 0 (weigh_by (passed xs i n) e)) done)
