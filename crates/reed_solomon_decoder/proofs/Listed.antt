-- Errors as values at locators, and their power sums.
use Rattle.std.proofs.Common.{◌≡◌, ℕ, ◌+◌, ◌-◌, ◌<◌, ◌≤◌, List, [], ◌∷◌, length, get_or, drop, sym, refl, ap, ◌∙◌, arith}
use lib.Bits.{bit_xor, xor_assoc, xor_zero_r}
use Rattle.std.proofs.lemmas.List.{drop_more, drop_all, drop-map, get_or-map, length-map}
use Rattle.field.specs.Field.{mul, pow}
use Rattle.reed_solomon_algebra.specs.Terms.{Term, power_sum, terms}
use Rattle.reed_solomon_decoder.specs.Errors.{located}
use Rattle.reed_solomon_decoder.proofs.Searching.{located_at, located_length}
use Rattle.reed_solomon_decoder.specs.Listed.{indices, places, values, listed_in}
use Rattle.reed_solomon_decoder.specs.declared.line.Place.{Place}
use Rattle.reed_solomon_decoder.specs.declared.errors.Error.{Error}

-- the errors as terms are their values at the locators of their places, at any length of the line
pub listed_terms : (n : ℕ) (es : List Error) → listed_in n es ≡ terms (values es) (located n (indices (places es)))
unfolding terms located
listed_terms n [] = refl
listed_terms n (e ∷ es) = ap (λ (l : List Term). record { coef = e.value; place = pow 2 (n - 1 - e.place.index) } ∷ l) (listed_terms n es)

-- the locator of the k-th of some places
pub located_index : (n : ℕ) (ps : List Place) (k : ℕ) (d : Place) → k < length ps
    → get_or (located n (indices ps)) k 0 ≡ pow 2 (n - 1 - (get_or ps k d).index)
located_index n ps k d h =
    located_at n (indices ps) k (omega (arith, length-map ps (λ (p : Place). p.index)))
    ∙ ap (λ (i : ℕ). pow 2 (n - 1 - i)) (get_or-map (λ (p : Place). p.index) ps k d 0 h)

pub located_long : (n : ℕ) (ps : List Place) → length (located n (indices ps)) ≡ length ps
located_long n ps = located_length n (indices ps) ∙ length-map ps (λ (p : Place). p.index)

-- ---- the loop of the sum

-- over any terms
pub terms_turn : (ts : List Term) (k j sum v all : ℕ) (d : Term) → k < length ts → v ≡ mul (get_or ts k d).coef (pow (get_or ts k d).place j)
    → bit_xor sum (power_sum j (drop k ts)) ≡ all → bit_xor (bit_xor sum v) (power_sum j (drop (k + 1) ts)) ≡ all
unfolding power_sum
terms_turn ts k j sum v all d h is e =
    xor_assoc sum v (power_sum j (drop (k + 1) ts))
    ∙ ap (bit_xor sum) (ap (λ (y : ℕ). bit_xor y (power_sum j (drop (k + 1) ts))) is ∙ sym (ap (power_sum j) (drop_more ts k d h)))
    ∙ e

pub terms_end : (ts : List Term) (k j sum all : ℕ) → length ts ≤ k → bit_xor sum (power_sum j (drop k ts)) ≡ all → sum ≡ all
unfolding power_sum
terms_end ts k j sum all h e = sym (xor_zero_r sum) ∙ ap (λ (l : List Term). bit_xor sum (power_sum j l)) (sym (drop_all k ts h)) ∙ e

-- over errors in a line of n symbols
module _ (n : ℕ) (es : List Error) where
  abbrev term : Error → Term
  term e = record { coef = e.value; place = pow 2 (n - 1 - e.place.index) }

  long : length (listed_in n es) ≡ length es
  long = length-map es term

  at_drop : (k j sum : ℕ) → bit_xor sum (power_sum j (drop k (listed_in n es))) ≡ bit_xor sum (power_sum j (listed_in n (drop k es)))
  at_drop k j sum = ap (λ (l : List Term). bit_xor sum (power_sum j l)) (drop-map term k es)

  pub powers_turn : (k j sum v all : ℕ) (d : Error) → k < length es
      → v ≡ mul (get_or es k d).value (pow (pow 2 (n - 1 - (get_or es k d).place.index)) j)
      → bit_xor sum (power_sum j (listed_in n (drop k es))) ≡ all
      → bit_xor (bit_xor sum v) (power_sum j (listed_in n (drop (k + 1) es))) ≡ all
  powers_turn k j sum v all d h is e =
      sym (at_drop (k + 1) j (bit_xor sum v))
      ∙ terms_turn (listed_in n es) k j sum v all (term d) (omega (arith, long))
      (is ∙ ap (λ (t : Term). mul t.coef (pow t.place j)) (sym (get_or-map term es k d (term d) h)))
      (at_drop k j sum ∙ e)

  pub powers_end : (k j sum all : ℕ) → length es ≤ k → bit_xor sum (power_sum j (listed_in n (drop k es))) ≡ all → sum ≡ all
  powers_end k j sum all h e = terms_end (listed_in n es) k j sum all (omega (arith, long)) (at_drop k j sum ∙ e)
