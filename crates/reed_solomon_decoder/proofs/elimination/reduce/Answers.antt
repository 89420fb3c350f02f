-- What is left to show of `reduce`.
use Rattle.std.proofs.Common.{◌≡◌, ℕ, ◌≢◌, List, [], length, get_or, set, ap, ◌∙◌, sym, refl, subst, arith, length-set, get_or-set_other, get_or-set_same, not-suc-le-zero, below_more}
use Rattle.reed_solomon_decoder.specs.Errors.{dot}
use Rattle.reed_solomon_decoder.specs.Kernel.{Plus, Reduced}
use Rattle.reed_solomon_decoder.proofs.Rows.{reduced_row}
use Rattle.reed_solomon_decoder.proofs.elimination.reduce.Goals as goal

pub loop-row-init : goal.loop-row-init
loop-row-init c = ((λ i h. absurd (not-suc-le-zero h)), (λ i h. refl), refl)

pub loop-row-preserved : goal.loop-row-preserved
loop-row-preserved c =
    let rows : List (List ℕ) = c.args.rows.now in
    let now : List (List ℕ) = c.loop-row.row-items in
    let window : List ℕ = c.args.window.now in
    let pivot : List ℕ = c.args.pivot.now in
    let i : ℕ = c.loop-row.row-index in
    let v : List ℕ = c.reduced.result in
    let is : get_or now i [] ≡ get_or rows i [] = c.loop-row.invariant.1 i (omega arith) in
    let width : length (get_or rows i []) ≡ 8 = c.told-rows i c.loop-row-test.true in
    let something : dot pivot window ≢ 0 = c.requires in
    let row : Reduced window v (get_or rows i []) pivot =
    reduced_row window v (get_or rows i []) pivot
    c.dot_with-in-loop-row.result c.dot_with.result c.inverse-scale.result c.product-c.result
    (c.reduced.ensures.wide ∙ sym width) (c.told-pivot ∙ sym width)
    (c.dot_with-in-loop-row.ensures ∙ ap (λ (u : List ℕ). dot u window) is)
    c.dot_with.ensures (omega arith)
    c.inverse-scale.ensures.value c.product-c.ensures.value
    (subst (λ (u : List ℕ). Plus v u c.product-c.result pivot) is c.reduced.ensures.sum) in (
      below_more (λ (k : ℕ). Reduced window (get_or (set now i v) k []) (get_or rows k []) pivot) i
          (λ k h.
          let ne : k ≢ i = omega arith in
          subst (λ (u : List ℕ). Reduced window u (get_or rows k []) pivot) (sym (get_or-set_other now i k v [] ne)) (c.loop-row.invariant.0 k h))
          (subst (λ (u : List ℕ). Reduced window u (get_or rows i []) pivot) (sym (get_or-set_same now i v [] (omega arith))) row),
      (λ k h. let ne : k ≢ i = omega arith in get_or-set_other now i k v [] ne ∙ c.loop-row.invariant.1 k (omega arith)),
      length-set now i v ∙ c.loop-row.invariant.2,
    )

pub returns-clause-reduced : goal.returns-clause-reduced
returns-clause-reduced c i h = c.loop-row.invariant.0 i (omega arith)
