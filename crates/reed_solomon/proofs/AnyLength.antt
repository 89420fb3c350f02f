-- Errors taken from a line one after the other, at any length of line below the order of α and over any lists of places and
-- values; `Correcting` has the same over the code's lists of errors.
use Rattle.std.proofs.Common.{◌≡◌, ℕ, ◌+◌, ◌-◌, ◌<◌, ◌≤◌, ◌≢◌, List, [], ◌∷◌, length, get_or, drop, set, sym, refl, ap, ◌∙◌, subst, ap₂}
use lib.Bits.{bit_xor}
use Rattle.std.proofs.lemmas.List.{drop_more, drop_all}
use Rattle.code.specs.Distance.{distance}
use Rattle.field.specs.Field.{pow}
use Rattle.reed_solomon_algebra.specs.Terms.{Term, Apart, Distinct, locators, terms}
use Rattle.reed_solomon_algebra.proofs.Locators.{locators_length, locators_at, locators_differ}
use Rattle.reed_solomon_decoder.specs.Errors.{located}
use Rattle.reed_solomon.specs.Corrected.{corrected}
use Rattle.reed_solomon.proofs.Correcting.{corrected_nothing, corrected_one, distance_one, corrected_none}

pub terms_more : (n : ℕ) (vs ps : List ℕ) (k : ℕ) → k < length vs → k < length ps
    → terms (drop k vs) (located n (drop k ps))
    ≡ record { coef = get_or vs k 0; place = pow 2 (n - 1 - get_or ps k 0) } ∷ terms (drop (k + 1) vs) (located n (drop (k + 1) ps))
unfolding terms located
terms_more n vs ps k hv hp = ap₂ (λ (v p : List ℕ). terms v (located n p)) (drop_more vs k 0 hv) (drop_more ps k 0 hp)

nothing : (vs : List ℕ) → terms vs [] ≡ []
unfolding terms
nothing [] = refl
nothing (v ∷ vs) = refl

pub terms_all : (n : ℕ) (vs ps : List ℕ) (k : ℕ) → length ps ≤ k → terms (drop k vs) (located n (drop k ps)) ≡ []
unfolding located
terms_all n vs ps k h = ap (λ (p : List ℕ). terms (drop k vs) (located n p)) (drop_all k ps h) ∙ nothing (drop k vs)

-- the errors from the k-th on
abbrev pub errors_from : ℕ → List ℕ → List ℕ → ℕ → List Term
errors_from n vs ps k = terms (drop k vs) (located n (drop k ps))

module _ (n : ℕ) (vs ps : List ℕ) (k : ℕ) (hv : k < length vs) (hp : k < length ps) (short : n ≤ 1023) (here : get_or ps k 0 < n) where
  first_place : get_or (locators n) (get_or ps k 0) 0 ≡ pow 2 (n - 1 - get_or ps k 0)
  first_place = locators_at n (get_or ps k 0) here

  inside : get_or ps k 0 < length (locators n)
  inside = subst (λ (m : ℕ). get_or ps k 0 < m) (sym (locators_length n)) here

  pub turn_distinct : Distinct (errors_from n vs ps k) → Apart (pow 2 (n - 1 - get_or ps k 0)) (errors_from n vs ps (k + 1)) × Distinct (errors_from n vs ps (k + 1))
  turn_distinct d = subst Distinct (terms_more n vs ps k hv hp) d

  pub turn_set : (line : List ℕ) → length line ≡ n
      → corrected (errors_from n vs ps k) line (locators n)
      ≡ corrected (errors_from n vs ps (k + 1)) (set line (get_or ps k 0) (bit_xor (get_or line (get_or ps k 0) 0) (get_or vs k 0))) (locators n)
  turn_set line l =
      ap (λ (e : List Term). corrected e line (locators n)) (terms_more n vs ps k hv hp)
      ∙ corrected_one (record { coef = get_or vs k 0; place = pow 2 (n - 1 - get_or ps k 0) }) (errors_from n vs ps (k + 1)) line (locators n) (get_or ps k 0)
      (l ∙ sym (locators_length n)) (locators_differ n short) inside first_place

  pub turn_skip : (line : List ℕ) → get_or vs k 0 ≡ 0
      → corrected (errors_from n vs ps k) line (locators n) ≡ corrected (errors_from n vs ps (k + 1)) line (locators n)
  turn_skip line z =
      ap (λ (e : List Term). corrected e line (locators n)) (terms_more n vs ps k hv hp)
      ∙ corrected_nothing (record { coef = get_or vs k 0; place = pow 2 (n - 1 - get_or ps k 0) }) (errors_from n vs ps (k + 1)) line (locators n) z

  pub turn_count : (line : List ℕ) → length line ≡ n → get_or vs k 0 ≢ 0 → Distinct (errors_from n vs ps k)
      → distance line (corrected (errors_from n vs ps k) line (locators n))
      ≡ 1 + distance line (corrected (errors_from n vs ps (k + 1)) line (locators n))
  turn_count line l nz d =
      ap (λ (e : List Term). distance line (corrected e line (locators n))) (terms_more n vs ps k hv hp)
      ∙ distance_one (record { coef = get_or vs k 0; place = pow 2 (n - 1 - get_or ps k 0) }) (errors_from n vs ps (k + 1)) line (locators n) (get_or ps k 0)
      (l ∙ sym (locators_length n)) (locators_differ n short) inside first_place nz (turn_distinct d).0

pub turns_done : (n : ℕ) (vs ps line : List ℕ) (k : ℕ) → length ps ≤ k → corrected (errors_from n vs ps k) line (locators n) ≡ line
turns_done n vs ps line k h =
    ap (λ (e : List Term). corrected e line (locators n)) (terms_all n vs ps k h) ∙ corrected_none line (locators n)
