-- What is left to show of `repair`.
use Rattle.std.proofs.Common.{◌≡◌, ℕ, ◌<◌, List, length, get_or, replicate, sym, refl, ap, ◌∙◌, subst, arith, lit≤}
use Rattle.code.specs.Metric.{distance_self}
use Rattle.field.specs.Field.{pow}
use Rattle.symbols.specs.Symbols.{Symbols}
use Rattle.reed_solomon_algebra.specs.Polynomials.{value}
use Rattle.reed_solomon_algebra.specs.CodeWords.{CodeWord, polynomial}
use Rattle.reed_solomon_algebra.specs.Terms.{Distinct, locators, difference}
use Rattle.reed_solomon_decoder.specs.Listed.{listed, errors_of}
use Rattle.reed_solomon_decoder.specs.declared.errors.Error.{Error}
use Rattle.reed_solomon.specs.Corrected.{corrected}
use Rattle.reed_solomon.specs.Repaired.{Hopeless}
use Rattle.reed_solomon.proofs.Rests.{rest_of, rest_syndromes, clean_word}
use Rattle.reed_solomon.proofs.Nearness.{Syndromes, near_explains, explained_word}
use Rattle.reed_solomon.proofs.repair.repair.Goals as goal
use Rattle.std.proofs.lemmas.Bool.Decides.{Decides-eqb}
use Rattle.std.proofs.lemmas.Slice.Eq.{slice_eq-Decides}

pub returns-then-eq : goal.returns-then-eq
returns-then-eq c =
    let line : List ℕ = c.args.line.now in
    let none : c.rest_of-rest.result ≡ replicate 14 0 =
    (slice_eq-Decides Decides-eqb c.rest_of-rest.result (replicate 14 0) c.eq.result c.eq.ensures).0 c.if-eq.true in
    record {
      word = clean_word 7 (lit≤ tt) line c.told-line c.requires (sym c.rest_of-rest.ensures ∙ none);
      answer = sym (distance_self line);
      near = lit≤ tt;
    }

syndromes_of : (line rest s : List ℕ) → length line ≡ 528 → Symbols line → rest ≡ rest_of 7 line
    → ((j : ℕ) → j < 14 → get_or s j 0 ≡ value (pow 2 j) (polynomial rest)) → Syndromes 14 line s
syndromes_of line rest s long symbols is h =
    rest_syndromes 7 (lit≤ tt) line long symbols s (λ j q. h j q ∙ ap (λ (r : List ℕ). value (pow 2 j) (polynomial r)) is)

pub correct-requires : goal.correct-requires
correct-requires c =
    subst (λ (es : List Error). Distinct (listed es)) (sym c.as_slice.ensures.value) c.in_ok-errors.ensures.distinct

pub returns : goal.returns
returns c =
    let line : List ℕ = c.args.line.now in
    let s : List ℕ = c.syndromes.result in
    let es : List Error = errors_of c.in_ok-errors.errors in
    let after : c.correct.new.line ≡ corrected (listed es) line (locators 528) =
    c.correct.ensures.line ∙ ap (λ (ds : List Error). corrected (listed ds) line (locators 528)) c.as_slice.ensures.value in
    record {
      word = subst (CodeWord 7) (sym after)
          (explained_word 7 (lit≤ tt) line s c.told-line c.requires c.syndromes.ensures.wide
          (syndromes_of line c.rest_of-rest.result s c.told-line c.requires c.rest_of-rest.ensures c.syndromes.ensures.values)
          (listed es) c.in_ok-errors.ensures);
      answer = c.correct.ensures.count;
      near = omega (arith, c.correct.ensures.few, c.as_slice.ensures.fits);
    }

pub returns-in_err-errors : goal.returns-in_err-errors
returns-in_err-errors c =
    let line : List ℕ = c.args.line.now in
    let s : List ℕ = c.syndromes.result in
    let hopeless : Hopeless 7 line =
    λ word w d.
    c.in_err-errors.ensures (difference line word (locators 528))
    (near_explains 7 (lit≤ tt) line s c.told-line c.requires c.syndromes.ensures.wide
    (syndromes_of line c.rest_of-rest.result s c.told-line c.requires c.rest_of-rest.ensures c.syndromes.ensures.values)
    word w d) in
    rw c.from_residual.ensures (hopeless, refl)
