-- What is left to show of `search`.
use Rattle.std.proofs.Common.{◌≡◌, ℕ, suc, ◌+◌, ◌-◌, ◌<◌, List, [], ◌∷◌, ◌++◌, length, sym, ap, ◌∙◌, subst, arith, lit≤, lit<}
use Rattle.std.proofs.lemmas.List.{map-append, length-map}
use Rattle.field.specs.Field.{pow}
use Rattle.reed_solomon_algebra.specs.Polynomials.{value}
use Rattle.reed_solomon_decoder.specs.Errors.{located, roots_below, sum_of}
use Rattle.reed_solomon_decoder.specs.Exponents.{Lowered}
use Rattle.reed_solomon_decoder.specs.Listed.{indices}
use Rattle.arrayvec.specs.ArrayVec.{ArrayVec}
use Rattle.reed_solomon_decoder.specs.declared.line.Place.{Place}
use Rattle.reed_solomon_decoder.proofs.Exponents.{lowered_next}
use Rattle.reed_solomon_decoder.proofs.Searching.{sum_is, free, turned_yes, turned_no, found_all}
use Rattle.reed_solomon_decoder.proofs.search.search.Goals as goal
use Rattle.reed_solomon_decoder.proofs.search.search.Goals.{then-sum-eq0, else-sum-eq0}

pub loop-index-init : goal.loop-index-init
unfolding located
loop-index-init c =
    (ap (λ (ps : List Place). located 528 (indices ps) ++ roots_below c.args.u.now 528) c.new-places.ensures, c.start-terms.ensures.lowered, c.start-terms.ensures.wide, c.start-terms.ensures.elements)

pub push-requires : goal.push-requires
push-requires c =
    let ps : List ℕ = indices c.loop-index.places.items in
    let s : ℕ = c.loop-index.index in
    let room : length ps < 7 =
    free 528 7 c.args.u.now ps s (omega arith) c.loop-index.invariant.0 (lit≤ tt) c.requires.symbols c.told-u c.requires.nonzero
    (sym (sum_is 528 c.args.u.now c.loop-index.terms s (omega arith) c.requires.symbols c.loop-index.invariant.3 (c.loop-index.invariant.2 ∙ sym c.told-u) c.loop-index.invariant.1)
    ∙ sym c.sum.ensures ∙ c.if-sum-eq0.true) in
    (lit< tt, omega (arith, length-map c.loop-index.places.items (λ (p : Place). p.index)))

pub loop-index-preserved : goal.loop-index-preserved
loop-index-preserved c =
    let u : List ℕ = c.args.u.now in
    let ps : List ℕ = indices c.loop-index.places.items in
    let s : ℕ = c.loop-index.index in
    let is : sum_of c.loop-index.terms ≡ value (pow 2 (527 - s)) u =
    sum_is 528 u c.loop-index.terms s (omega arith) c.requires.symbols c.loop-index.invariant.3 (c.loop-index.invariant.2 ∙ sym c.told-u) c.loop-index.invariant.1 in
    let found : located 528 (indices c.if-sum-eq0.places.items) ++ roots_below u (528 - (s + 1)) ≡ roots_below u 528 =
    elim c.if-sum-eq0.branch [
      | then-sum-eq0 w ↦
          let more : indices c.if-sum-eq0.places.items ≡ ps ++ s ∷ [] =
          ap (λ (v : ArrayVec Place). indices v.items) w.places-is ∙ ap indices w.push.ensures.items ∙ map-append (λ (p : Place). p.index) c.loop-index.places.items _ in
          ap (λ (l : List ℕ). located 528 l ++ roots_below u (528 - (s + 1))) more
          ∙ turned_yes 528 7 u ps s (omega arith) c.loop-index.invariant.0 (sym is ∙ sym c.sum.ensures ∙ w.if-sum-eq0.true)
      | else-sum-eq0 w ↦
          ap (λ (v : ArrayVec Place). located 528 (indices v.items) ++ roots_below u (528 - (s + 1))) w.places-is
          ∙ turned_no 528 7 u ps s (omega arith) c.loop-index.invariant.0 (λ z. w.if-sum-eq0.false (c.sum.ensures ∙ is ∙ z))
    ] in
    let up : 528 - c.loop-index.index ≡ suc (527 - c.loop-index.index) = omega arith in
    let next : 527 - c.loop-index.index ≡ 528 - (c.loop-index.index + 1) = omega arith in (
      found,
      subst (λ (n : ℕ). Lowered u n c.lower.new.terms) next
          (lowered_next u (527 - s) c.loop-index.terms c.lower.new.terms c.loop-index.invariant.3
          (subst (λ (n : ℕ). Lowered u n c.loop-index.terms) up c.loop-index.invariant.1)
          (λ k h. c.lower.ensures.lowered k (subst (λ (n : ℕ). k < n) c.told-u h))),
      c.lower.ensures.wide,
      c.lower.ensures.elements,
    )

pub returns : goal.returns
returns c =
    let done : 528 - c.loop-index.index ≡ 0 = omega arith in
    let ps : List ℕ = indices c.loop-index.places.items in
    found_all c.args.u.now ps 528
    (ap (λ (m : ℕ). located 528 ps ++ roots_below c.args.u.now m) (sym done) ∙ c.loop-index.invariant.0)
