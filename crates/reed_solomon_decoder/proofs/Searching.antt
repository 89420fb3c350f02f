-- A turn of the search over the places.
use Rattle.std.proofs.Common.{◌≡◌, ℕ, zero, suc, ◌+◌, ◌-◌, ◌<◌, ◌≤◌, ◌≢◌, List, [], ◌∷◌, ◌++◌, length, get_or, sym, refl, ap, ◌∙◌, subst, le_of_suc-le-suc, not-suc-le-zero, arith, length-append}
use Rattle.std.proofs.lemmas.List.{append_assoc, append-nil}
use Rattle.field.specs.Field.{pow}
use Rattle.field.proofs.Powers.{pow_lt}
use Rattle.reed_solomon_algebra.specs.Polynomials.{value, Elements}
use Rattle.reed_solomon_decoder.specs.Errors.{Null, located, roots_below, sum_of}
use Rattle.reed_solomon_decoder.specs.Exponents.{Lowered}
use Rattle.reed_solomon_decoder.proofs.Exponents.{sum_value}
use Rattle.reed_solomon_decoder.proofs.Places.{roots_yes, roots_no, roots_few}

-- ---- the locators of places

pub located_append : (n : ℕ) (a b : List ℕ) → located n (a ++ b) ≡ located n a ++ located n b
unfolding located
located_append n [] b = refl
located_append n (p ∷ a) b = ap (λ (l : List ℕ). pow 2 (n - 1 - p) ∷ l) (located_append n a b)

pub located_length : (n : ℕ) (ps : List ℕ) → length (located n ps) ≡ length ps
unfolding located
located_length n [] = refl
located_length n (p ∷ ps) = ap suc (located_length n ps)

pub located_elements : (n : ℕ) (ps : List ℕ) → Elements (located n ps)
unfolding located
located_elements n [] k = lib.Dec.lit< tt
located_elements n (p ∷ ps) zero = pow_lt 2 (n - 1 - p)
located_elements n (p ∷ ps) (suc k) = located_elements n ps k

pub located_at : (n : ℕ) (ps : List ℕ) (k : ℕ) → k < length ps → get_or (located n ps) k 0 ≡ pow 2 (n - 1 - get_or ps k 0)
unfolding located
located_at n [] k h = absurd (not-suc-le-zero h)
located_at n (p ∷ ps) zero h = refl
located_at n (p ∷ ps) (suc k) h = located_at n ps k (le_of_suc-le-suc h)

-- ---- the search

-- there is room for one more root
pub room : (u ps : List ℕ) (n m w : ℕ) → m ≤ 1023 → Elements u → length u ≡ suc w → (Null u → ⊥)
    → value (pow 2 n) u ≡ 0 → located m ps ++ roots_below u (suc n) ≡ roots_below u m → length ps < w
room u ps n m w h b l nz z e =
    let few : length (roots_below u m) ≤ w = roots_few u m w h b l nz in
    let all : length (located m ps) + length (roots_below u (suc n)) ≡ length (roots_below u m) =
    sym (length-append (located m ps) (roots_below u (suc n))) ∙ ap length e in
    let one : length (roots_below u (suc n)) ≡ suc (length (roots_below u n)) = ap length (roots_yes u n z) in
    let front : length (located m ps) ≡ length ps = located_length m ps in
    omega arith

pub found_more : (u ps : List ℕ) (n m s : ℕ) → m - 1 - s ≡ n → value (pow 2 n) u ≡ 0
    → located m ps ++ roots_below u (suc n) ≡ roots_below u m
    → located m (ps ++ s ∷ []) ++ roots_below u n ≡ roots_below u m
unfolding located
found_more u ps n m s is z e =
    ap (λ (l : List ℕ). l ++ roots_below u n) (located_append m ps (s ∷ []))
    ∙ append_assoc (located m ps) (pow 2 (m - 1 - s) ∷ []) (roots_below u n)
    ∙ ap (λ (l : List ℕ). located m ps ++ l)
    (ap (λ (i : ℕ). pow 2 i ∷ roots_below u n) is ∙ sym (roots_yes u n z))
    ∙ e

pub found_not : (u ps : List ℕ) (n m : ℕ) → value (pow 2 n) u ≢ 0
    → located m ps ++ roots_below u (suc n) ≡ roots_below u m
    → located m ps ++ roots_below u n ≡ roots_below u m
found_not u ps n m ne e = ap (λ (l : List ℕ). located m ps ++ l) (sym (roots_no u n ne)) ∙ e

pub found_all : (u ps : List ℕ) (m : ℕ) → located m ps ++ roots_below u 0 ≡ roots_below u m → located m ps ≡ roots_below u m
unfolding roots_below
found_all u ps m e = sym (append-nil (located m ps)) ∙ e

-- ---- a turn at place s of a line of n symbols, with room for w places

-- the sum of the terms at a place is the value at its locator
pub sum_is : (n : ℕ) (u es : List ℕ) (s : ℕ) → s < n → Elements u → Elements es → length es ≡ length u → Lowered u (n - s) es
    → sum_of es ≡ value (pow 2 (n - 1 - s)) u
sum_is n u es s here b bt l low =
    let up : n - s ≡ suc (n - 1 - s) = omega arith in
    sum_value u (n - 1 - s) es b bt l (subst (λ (m : ℕ). Lowered u m es) up low)

-- the places found, with the roots that the places after s have
module _ (n w : ℕ) (u ps : List ℕ) (s : ℕ) (here : s < n)
    (found : located n ps ++ roots_below u (n - s) ≡ roots_below u n) where
  found_up : located n ps ++ roots_below u (suc (n - 1 - s)) ≡ roots_below u n
  found_up =
      let up : suc (n - 1 - s) ≡ n - s = omega arith in
      ap (λ (m : ℕ). located n ps ++ roots_below u m) up ∙ found

  down : n - 1 - s ≡ n - (s + 1)
  down = omega arith

  pub free : n ≤ 1023 → Elements u → length u ≡ suc w → (Null u → ⊥) → value (pow 2 (n - 1 - s)) u ≡ 0 → length ps < w
  free short b lu nz z = room u ps (n - 1 - s) n w short b lu nz z found_up

  pub turned_yes : value (pow 2 (n - 1 - s)) u ≡ 0 → located n (ps ++ s ∷ []) ++ roots_below u (n - (s + 1)) ≡ roots_below u n
  turned_yes z = ap (λ (m : ℕ). located n (ps ++ s ∷ []) ++ roots_below u m) (sym down) ∙ found_more u ps (n - 1 - s) n s refl z found_up

  pub turned_no : value (pow 2 (n - 1 - s)) u ≢ 0 → located n ps ++ roots_below u (n - (s + 1)) ≡ roots_below u n
  turned_no ne = ap (λ (m : ℕ). located n ps ++ roots_below u m) (sym down) ∙ found_not u ps (n - 1 - s) n ne found_up
