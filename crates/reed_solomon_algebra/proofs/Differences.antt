-- Where two lines differ; lines that vanish at k powers of α and differ in at most k places are equal.
use Rattle.std.proofs.Common.{◌≡◌, ℕ, ◌+◌, ◌<◌, ◌≤◌, Bool, true, false, cond, T, eqb, List, [], ◌∷◌, length, sym, refl, ap, ◌∙◌, subst, ap₂, arith, eqb→eq}
use lib.Bits.{bit_xor, xor_self, xor_lt}
use lib.Dec.{eqb_refl}
use Rattle.symbols.specs.Symbols.{Symbols}
use Rattle.code.specs.Distance.{distance}
use Rattle.code.specs.Metric.{distance_zero}
use Rattle.field.specs.Field.{mul, pow}
use Rattle.field.proofs.Linear.{xor4, xor_zero_eq}
use Rattle.field.proofs.Laws.{mul_xor_l, mul_zero_l}
use Rattle.field.proofs.Powers.{pow_lt}
use Rattle.reed_solomon_algebra.specs.Division.{Vanishes}
use Rattle.reed_solomon_algebra.specs.Terms.{Term, power_sum, Small, Apart, Distinct, Vanish, Placed, Away, Differ, Powers, locators, terms, difference}
use Rattle.reed_solomon_algebra.proofs.Polynomials.{first_symbol, rest_symbols, value_line}
use Rattle.reed_solomon_algebra.proofs.KeyLemma.{key_lemma}
use Rattle.reed_solomon_algebra.proofs.Locators.{locators_length, locators_differ, locators_powers, syndrome_value}

-- the terms of two lines, with the first place's or without it
abbrev one_more : Bool → ℕ → ℕ → ℕ → List Term → List Term
one_more same l c x ts = cond same ts (record { coef = bit_xor l c; place = x } ∷ ts)

pub difference_length : (ls cs xs : List ℕ) → length (difference ls cs xs) ≤ distance ls cs
unfolding difference distance
difference_length [] cs xs = omega arith
difference_length (l ∷ ls) [] xs = omega arith
difference_length (l ∷ ls) (c ∷ cs) [] = omega arith
difference_length (l ∷ ls) (c ∷ cs) (x ∷ xs) = go (difference_length ls cs xs) (eqb l c)
  where
    go : length (difference ls cs xs) ≤ distance ls cs → (b : Bool)
        → length (one_more b l c x (difference ls cs xs)) ≤ cond b 0 1 + distance ls cs
    go r true = omega arith
    go r false = omega arith

pub difference_small : (n : ℕ) (ls cs xs : List ℕ) → Symbols ls → Symbols cs → Powers n xs → Small (difference ls cs xs)
unfolding difference
difference_small n [] cs xs sl sc p = tt
difference_small n (l ∷ ls) [] xs sl sc p = tt
difference_small n (l ∷ ls) (c ∷ cs) [] sl sc p = tt
difference_small n (l ∷ ls) (c ∷ cs) (x ∷ xs) sl sc p =
    go (difference_small n ls cs xs (rest_symbols l ls sl) (rest_symbols c cs sc) p.1) (eqb l c)
  where
    go : Small (difference ls cs xs) → (b : Bool) → Small (one_more b l c x (difference ls cs xs))
    go r true = r
    go r false = (
      xor_lt 10 l c (first_symbol l ls sl) (first_symbol c cs sc),
      subst (λ (y : ℕ). y < 1024) (sym p.0.2) (pow_lt 2 p.0.0),
      r,
    )

difference_apart : (y : ℕ) (ls cs xs : List ℕ) → Away y xs → Apart y (difference ls cs xs)
unfolding difference
difference_apart y [] cs xs a = tt
difference_apart y (l ∷ ls) [] xs a = tt
difference_apart y (l ∷ ls) (c ∷ cs) [] a = tt
difference_apart y (l ∷ ls) (c ∷ cs) (x ∷ xs) a = go (difference_apart y ls cs xs a.1) (eqb l c)
  where
    go : Apart y (difference ls cs xs) → (b : Bool) → Apart y (one_more b l c x (difference ls cs xs))
    go r true = r
    go r false = (a.0, r)

pub difference_distinct : (ls cs xs : List ℕ) → Differ xs → Distinct (difference ls cs xs)
unfolding difference
difference_distinct [] cs xs d = tt
difference_distinct (l ∷ ls) [] xs d = tt
difference_distinct (l ∷ ls) (c ∷ cs) [] d = tt
difference_distinct (l ∷ ls) (c ∷ cs) (x ∷ xs) d = go (difference_distinct ls cs xs d.1) (eqb l c)
  where
    go : Distinct (difference ls cs xs) → (b : Bool) → Distinct (one_more b l c x (difference ls cs xs))
    go r true = r
    go r false = (difference_apart x ls cs xs d.0, r)

pub difference_placed : (n : ℕ) (ls cs xs : List ℕ) → Powers n xs → Placed n (difference ls cs xs)
unfolding difference
difference_placed n [] cs xs p = tt
difference_placed n (l ∷ ls) [] xs p = tt
difference_placed n (l ∷ ls) (c ∷ cs) [] p = tt
difference_placed n (l ∷ ls) (c ∷ cs) (x ∷ xs) p = go (difference_placed n ls cs xs p.1) (eqb l c)
  where
    go : Placed n (difference ls cs xs) → (b : Bool) → Placed n (one_more b l c x (difference ls cs xs))
    go r true = r
    go r false = (p.0, r)

-- a term's part in the sums, which is 0 where the lines agree
more_sum : (j l c x : ℕ) (ts : List Term) (b : Bool) → eqb l c ≡ b
    → power_sum j (one_more b l c x ts) ≡ bit_xor (mul (bit_xor l c) (pow x j)) (power_sum j ts)
unfolding power_sum
more_sum j l c x ts true e =
    sym (ap (λ (y : ℕ). bit_xor y (power_sum j ts))
    (ap (λ (y : ℕ). mul y (pow x j)) (ap (bit_xor l) (sym (eqb→eq l c (subst T (sym e) tt))) ∙ xor_self l) ∙ mul_zero_l (pow x j)))
more_sum j l c x ts false e = refl

pub difference_sum : (j : ℕ) (ls cs xs : List ℕ) → length ls ≡ length cs
    → power_sum j (difference ls cs xs) ≡ bit_xor (power_sum j (terms ls xs)) (power_sum j (terms cs xs))
unfolding difference terms power_sum
difference_sum j [] [] xs e = refl
difference_sum j [] (c ∷ cs) xs e = let f : ⊥ = omega arith in absurd f
difference_sum j (l ∷ ls) [] xs e = let f : ⊥ = omega arith in absurd f
difference_sum j (l ∷ ls) (c ∷ cs) [] e = refl
difference_sum j (l ∷ ls) (c ∷ cs) (x ∷ xs) e =
    more_sum j l c x (difference ls cs xs) (eqb l c) refl
    ∙ ap₂ bit_xor (mul_xor_l l c (pow x j)) (difference_sum j ls cs xs (omega arith))
    ∙ xor4 (mul l (pow x j)) (mul c (pow x j)) (power_sum j (terms ls xs)) (power_sum j (terms cs xs))

none_differ : (ls cs xs : List ℕ) → length ls ≡ length xs → Vanish (difference ls cs xs) → distance ls cs ≡ 0
unfolding difference distance
none_differ [] cs xs e v = refl
none_differ (l ∷ ls) [] xs e v = refl
none_differ (l ∷ ls) (c ∷ cs) [] e v = let f : ⊥ = omega arith in absurd f
none_differ (l ∷ ls) (c ∷ cs) (x ∷ xs) e v = go (none_differ ls cs xs (omega arith)) (eqb l c) refl v
  where
    go : (Vanish (difference ls cs xs) → distance ls cs ≡ 0) → (b : Bool) → eqb l c ≡ b
        → Vanish (one_more b l c x (difference ls cs xs)) → cond b 0 1 + distance ls cs ≡ 0
    go r true q w = let i = r w in omega arith
    go r false q w = absurd (subst T q (subst (λ (y : ℕ). T (eqb l y)) (xor_zero_eq l c w.0) (eqb_refl l)))

-- the power sums of a line at its locators are zero where it vanishes
pub vanishing_sums : (k : ℕ) (line : List ℕ) → Symbols line → Vanishes k line
    → (j : ℕ) → j < k → power_sum j (terms line (locators (length line))) ≡ 0
vanishing_sums k line s v j h = syndrome_value j line ∙ sym (value_line (pow 2 j) line s) ∙ v j h

pub equal_lines : (k : ℕ) (xs ys : List ℕ) → length xs ≡ length ys → length xs ≤ 1023 → Symbols xs → Symbols ys
    → Vanishes k xs → Vanishes k ys → distance xs ys ≤ k → xs ≡ ys
equal_lines k xs ys l short sx sy vx vy d =
    let n = length xs in
    let at = locators (length xs) in
    distance_zero xs ys l
    (none_differ xs ys at (sym (locators_length n))
    (key_lemma k (difference xs ys at)
    (difference_small n xs ys at sx sy (locators_powers n n (omega arith)))
    (difference_distinct xs ys at (locators_differ n short))
    (omega (arith, difference_length xs ys at))
    (λ j h. difference_sum j xs ys at l
    ∙ ap₂ bit_xor (vanishing_sums k xs sx vx j h)
    (ap (λ (m : ℕ). power_sum j (terms ys (locators m))) l ∙ vanishing_sums k ys sy vy j h))))
