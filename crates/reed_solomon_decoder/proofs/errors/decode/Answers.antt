-- What is left to show of `decode`.
use Rattle.std.proofs.Common.{◌≡◌, ℕ, Bool, true, false, IsTrue, List, length, sym, ap, ◌∙◌, subst, arith, rules, lit≤}
use Rattle.std.proofs.lemmas.List.{length-map}
use Rattle.std.specs.Bool.{then_some}
use Rattle.reed_solomon_algebra.specs.Terms.{Differ, Term, terms}
use Rattle.reed_solomon_decoder.specs.Errors.{Explains, SumsFrom, located, roots_below}
use Rattle.reed_solomon_decoder.specs.Listed.{indices, places, values, listed, errors_of}
use Rattle.reed_solomon_decoder.specs.Decoded.{Decoded}
use Rattle.reed_solomon_decoder.specs.declared.line.Place.{Place}
use Rattle.reed_solomon_decoder.specs.declared.errors.Error.{Error}
use Rattle.reed_solomon_decoder.specs.declared.answer.Errors.{Errors}
use Rattle.reed_solomon_decoder.proofs.Places.{roots_differ}
use Rattle.reed_solomon_decoder.proofs.Composition.{passes, must_pass}
use Rattle.reed_solomon_decoder.proofs.Listed.{listed_terms, located_long}
use Rattle.reed_solomon_decoder.proofs.errors.decode.Goals as goal

pub errors_at-errors-requires-clause-differ : goal.errors_at-errors-requires-clause-differ
errors_at-errors-requires-clause-differ c =
    subst Differ (sym (ap (λ (ps : List Place). located 528 (indices ps)) c.as_slice.ensures.value ∙ c.search-places.ensures)) (roots_differ c.locator.result 528 (lit≤ tt))

-- what `errors_at` lists are its values at the roots found
module _ (es : List Error) (ps all : List Place) (u : List ℕ) (at_all : places es ≡ ps) (same : ps ≡ all) (found : located 528 (indices all) ≡ roots_below u 528) where
  are : located 528 (indices ps) ≡ roots_below u 528
  are = ap (λ (qs : List Place). located 528 (indices qs)) same ∙ found

  as_terms : listed es ≡ terms (values es) (located 528 (indices ps))
  as_terms = listed_terms 528 es ∙ ap (λ (qs : List Place). terms (values es) (located 528 (indices qs))) at_all

  long : length (located 528 (indices ps)) ≡ length (values es)
  long = located_long 528 ps ∙ sym (ap length at_all) ∙ length-map es (λ (e : Error). e.place) ∙ sym (length-map es (λ (e : Error). e.value))

-- the errors are answered where they pass
decided : (s : List ℕ) (b : Bool) (v : Errors) → (IsTrue b → Explains 7 528 s (listed (errors_of v))) → ((e : List Term) → Explains 7 528 s e → IsTrue b)
    → Decoded s (then_some b v)
decided s true v sound complete = sound (search rules)
decided s false v sound complete = λ e x. let passed : IsTrue false = complete e x in search rules

pub returns : goal.returns
returns c =
    let s : List ℕ = c.args.s.now in
    let es : List Error = c.errors_at-errors.result.items in
    let ps : List Place = c.as_slice.result.now in
    let at_roots = are es ps c.search-places.result.items c.locator.result c.errors_at-errors.ensures.places c.as_slice.ensures.value c.search-places.ensures in
    let terms_are = as_terms es ps c.search-places.result.items c.locator.result c.errors_at-errors.ensures.places c.as_slice.ensures.value c.search-places.ensures in
    let wide = long es ps c.search-places.result.items c.locator.result c.errors_at-errors.ensures.places c.as_slice.ensures.value c.search-places.ensures in
    let listed_are = ap listed c.as_slice-2.ensures.value ∙ terms_are in
    subst (Decoded s) (sym c.then_some.ensures)
    (decided s c.explained.result c.of.result
    (λ passed. subst (Explains 7 528 s) (sym (ap listed c.of.ensures ∙ terms_are))
    (passes 7 528 s c.locator.result (values es) (lit≤ tt) c.told-s c.locator.ensures
    (located 528 (indices ps)) at_roots c.errors_at-errors.ensures.small
    (subst (SumsFrom 0 s) listed_are (c.explained.ensures.0 passed))))
    (λ e x. c.explained.ensures.1 (subst (SumsFrom 0 s) (sym listed_are)
    (must_pass 7 528 s c.locator.result (values es) (lit≤ tt) c.told-s c.locator.ensures
    (located 528 (indices ps)) at_roots (omega (arith, wide))
    (λ i h. c.errors_at-errors.ensures.values i (omega (arith, located_long 528 ps))) e x))))
