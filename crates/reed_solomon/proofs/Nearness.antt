-- The errors that explain a line's syndromes are those that lead to a code word near it.
use Rattle.std.proofs.Common.{◌≡◌, ℕ, zero, suc, ◌*◌, ◌<◌, ◌≤◌, ◌≢◌, List, [], ◌∷◌, length, get_or, sym, ap, ◌∙◌, subst, ap₂, inl, inr, not-suc-le-zero, zero-add, arith}
use native.Mathlib.Decide.{ℕ_discrete}
use lib.Bits.{bit_xor, xor_self, xor_zero_r}
use Rattle.symbols.specs.Symbols.{Symbols}
use Rattle.code.specs.Distance.{distance}
use Rattle.field.specs.Field.{pow}
use Rattle.reed_solomon_algebra.specs.Polynomials.{value}
use Rattle.reed_solomon_algebra.specs.CodeWords.{CodeWord, line_length, polynomial}
use Rattle.reed_solomon_algebra.specs.Terms.{Term, power_sum, Placed, locators, terms, difference}
use Rattle.reed_solomon_algebra.proofs.Polynomials.{value_line}
use Rattle.reed_solomon_algebra.proofs.Generator.{elements}
use Rattle.reed_solomon_algebra.proofs.Locators.{locators_length, locators_differ, locators_powers, syndrome_value}
use Rattle.reed_solomon_algebra.proofs.Differences.{difference_length, difference_small, difference_distinct, difference_placed, difference_sum, vanishing_sums}
use Rattle.reed_solomon_algebra.proofs.Divides.{divisible_vanishes}
use Rattle.reed_solomon_algebra.proofs.Encodes.{vanishing_word}
use Rattle.reed_solomon_decoder.specs.Errors.{Has, Covered, Explains}
use Rattle.reed_solomon_decoder.proofs.Composition.{read_powers}
use Rattle.reed_solomon.specs.Corrected.{corrected}
use Rattle.reed_solomon.proofs.Correcting.{corrected_length, corrected_elements, corrected_sum}

-- s holds the first values of the line at the powers of α
abbrev pub Syndromes : ℕ → List ℕ → List ℕ → Type 0
Syndromes k line s = (j : ℕ) → j < k → get_or s j 0 ≡ value (pow 2 j) (polynomial line)

locators_has : (n k : ℕ) → k < n → Has (pow 2 k) (locators n)
unfolding locators
locators_has zero k h = absurd (not-suc-le-zero h)
locators_has (suc n) k h =
    elim (ℕ_discrete k n) [
      | yes e ↦ inl (ap (pow 2) (sym e))
      | no ne ↦ let ne' : k ≢ n = ne in inr (locators_has n k (omega arith))
    ]

placed_covered : (n : ℕ) (e : List Term) → Placed n e → Covered (locators n) e
placed_covered n [] p = tt
placed_covered n (t ∷ ts) p =
    (inr (subst (λ (x : ℕ). Has x (locators n)) (sym p.0.2) (locators_has n p.0.0 p.0.1)), placed_covered n ts p.1)

module _ (t : ℕ) (small : t ≤ 15) (line s : List ℕ) (long : length line ≡ line_length t) (symbols : Symbols line)
    (wide : length s ≡ 2 * t) (syndromes : Syndromes (2 * t) line s) where
  n : ℕ
  n = line_length t

  short : line_length t ≤ 1023
  short = omega arith

  line_sum : (j : ℕ) → j < 2 * t → get_or s j 0 ≡ power_sum j (terms line (locators (line_length t)))
  line_sum j h =
      syndromes j h ∙ value_line (pow 2 j) line symbols ∙ sym (syndrome_value j line)
      ∙ ap (λ (m : ℕ). power_sum j (terms line (locators m))) long

  -- Completeness: a code word within t explains the syndromes.
  pub near_explains : (word : List ℕ) → CodeWord t word → distance line word ≤ t
      → Explains t (line_length t) s (difference line word (locators (line_length t)))
  near_explains word w d =
      let at = locators (line_length t) in
      let powers = locators_powers (line_length t) (line_length t) (omega arith) in
      record {
        few = omega (arith, difference_length line word at);
        small = difference_small (line_length t) line word at symbols w.symbols powers;
        distinct = difference_distinct line word at (locators_differ (line_length t) short);
        placed = difference_placed (line_length t) line word at powers;
        sums = λ k q.
            line_sum k (omega arith)
            ∙ sym (xor_zero_r (power_sum k (terms line at)))
            ∙ ap (bit_xor (power_sum k (terms line at)))
            (sym (ap (λ (m : ℕ). power_sum k (terms word (locators m))) (sym w.long)
            ∙ vanishing_sums (2 * t) word w.symbols (divisible_vanishes (2 * t) word w.divisible) k (omega arith)))
            ∙ sym (difference_sum k line word at (long ∙ sym w.long))
            ∙ ap (λ (i : ℕ). power_sum i (difference line word at)) (sym (zero-add k));
      }

  -- Soundness: what explains the syndromes leads to a code word.
  pub explained_word : (e : List Term) → Explains t (line_length t) s e → CodeWord t (corrected e line (locators (line_length t)))
  explained_word e x =
      let at = locators (line_length t) in
      let word = corrected e line at in
      let wlong : length word ≡ line_length t = corrected_length e line at ∙ long in
      let wsymbols : Symbols word = λ i h. corrected_elements e line at x.small (elements line symbols) i in
      vanishing_word t small word wlong wsymbols
      (λ j h.
      value_line (pow 2 j) word wsymbols ∙ sym (syndrome_value j word)
      ∙ ap (λ (m : ℕ). power_sum j (terms word (locators m))) wlong
      ∙ corrected_sum j e line at (long ∙ sym (locators_length (line_length t)))
      ∙ ap₂ bit_xor (sym (line_sum j h))
      (read_powers j at e (locators_differ (line_length t) short) (placed_covered (line_length t) e x.placed)
      ∙ ap (λ (i : ℕ). power_sum i e) (sym (zero-add j)) ∙ sym (x.sums j (omega arith)))
      ∙ xor_self (get_or s j 0))
