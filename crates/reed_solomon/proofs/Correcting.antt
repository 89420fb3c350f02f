-- A line with errors taken from it: its length, its symbols, its power sums, and one error taken after the other.
use Rattle.std.proofs.Common.{◌≡◌, ℕ, zero, suc, ◌+◌, ◌-◌, ◌<◌, ◌≤◌, Bool, true, false, cond, eqb, ◌≢◌, List, [], ◌∷◌, length, get_or, drop, set, sym, refl, ap, ◌∙◌, subst, ap₂, le_of_suc-le-suc, not-suc-le-zero, zero-add, arith}
use lib.Bits.{bit_xor, xor_assoc, xor_self, xor_zero_r, xor_lt}
use Rattle.std.proofs.lemmas.List.{drop_more, drop_all}
use Rattle.code.specs.Distance.{distance}
use Rattle.field.specs.Field.{mul, pow}
use Rattle.field.proofs.Linear.{xor4, xor_cancel}
use Rattle.field.proofs.Laws.{mul_xor_l}
use Rattle.reed_solomon_algebra.specs.Polynomials.{Elements}
use Rattle.reed_solomon_algebra.specs.Terms.{Term, power_sum, Small, Apart, Distinct, Away, Differ, locators, terms}
use Rattle.reed_solomon_algebra.proofs.Locators.{locators_length, locators_at, locators_differ}
use Rattle.reed_solomon_decoder.specs.Errors.{at}
use Rattle.reed_solomon_decoder.specs.Listed.{listed_in}
use Rattle.reed_solomon_decoder.specs.declared.errors.Error.{Error}
use Rattle.reed_solomon_decoder.proofs.Places.{eq_true, eq_false}
use Rattle.reed_solomon_decoder.proofs.Values.{at_lt}
use Rattle.reed_solomon_decoder.proofs.Composition.{read_at}
use Rattle.reed_solomon.specs.Corrected.{corrected}

pub corrected_length : (e : List Term) (ls xs : List ℕ) → length (corrected e ls xs) ≡ length ls
unfolding corrected
corrected_length e [] xs = refl
corrected_length e (a ∷ ls) [] = refl
corrected_length e (a ∷ ls) (x ∷ xs) = ap suc (corrected_length e ls xs)

pub corrected_elements : (e : List Term) (ls xs : List ℕ) → Small e → Elements ls → Elements (corrected e ls xs)
unfolding corrected
corrected_elements e [] xs s b k = b k
corrected_elements e (a ∷ ls) [] s b k = b k
corrected_elements e (a ∷ ls) (x ∷ xs) s b zero = xor_lt 10 a (at x e) (b 0) (at_lt x e s)
corrected_elements e (a ∷ ls) (x ∷ xs) s b (suc k) = corrected_elements e ls xs s (λ m. b (suc m)) k

pub corrected_sum : (j : ℕ) (e : List Term) (ls xs : List ℕ) → length ls ≡ length xs
    → power_sum j (terms (corrected e ls xs) xs) ≡ bit_xor (power_sum j (terms ls xs)) (power_sum j (read_at e xs))
unfolding corrected terms power_sum read_at
corrected_sum j e [] [] l = refl
corrected_sum j e [] (x ∷ xs) l = let f : ⊥ = omega arith in absurd f
corrected_sum j e (a ∷ ls) [] l = let f : ⊥ = omega arith in absurd f
corrected_sum j e (a ∷ ls) (x ∷ xs) l =
    ap₂ bit_xor (mul_xor_l a (at x e) (pow x j)) (corrected_sum j e ls xs (omega arith))
    ∙ xor4 (mul a (pow x j)) (mul (at x e) (pow x j)) (power_sum j (terms ls xs)) (power_sum j (read_at e xs))

-- ---- one error

at_here : (t : Term) (ts : List Term) (x : ℕ) → t.place ≡ x → at x (t ∷ ts) ≡ bit_xor t.coef (at x ts)
unfolding at
at_here t ts x e = ap (λ (b : Bool). bit_xor (cond b t.coef 0) (at x ts)) (eq_true t.place x e)

at_other : (t : Term) (ts : List Term) (x : ℕ) → t.place ≢ x → at x (t ∷ ts) ≡ at x ts
unfolding at
at_other t ts x ne = ap (λ (b : Bool). bit_xor (cond b t.coef 0) (at x ts)) (eq_false t.place x ne)

at_nothing : (t : Term) (ts : List Term) (x : ℕ) → t.coef ≡ 0 → at x (t ∷ ts) ≡ at x ts
unfolding at
at_nothing t ts x z = ap (λ (y : ℕ). bit_xor y (at x ts)) (go (eqb t.place x))
  where
    go : (b : Bool) → cond b t.coef 0 ≡ 0
    go true = z
    go false = refl

pub at_apart : (x : ℕ) (ts : List Term) → Apart x ts → at x ts ≡ 0
unfolding at
at_apart x [] a = refl
at_apart x (t ∷ ts) a = ap (λ (b : Bool). bit_xor (cond b t.coef 0) (at x ts)) (eq_false t.place x a.0) ∙ at_apart x ts a.1

-- an error of value 0 changes nothing
pub corrected_nothing : (t : Term) (ts : List Term) (ls xs : List ℕ) → t.coef ≡ 0 → corrected (t ∷ ts) ls xs ≡ corrected ts ls xs
unfolding corrected
corrected_nothing t ts [] xs z = refl
corrected_nothing t ts (l ∷ ls) [] z = refl
corrected_nothing t ts (l ∷ ls) (x ∷ xs) z =
    ap₂ (λ (y : ℕ) (r : List ℕ). bit_xor l y ∷ r) (at_nothing t ts x z) (corrected_nothing t ts ls xs z)

corrected_away : (t : Term) (ts : List Term) (ls xs : List ℕ) → Away t.place xs → corrected (t ∷ ts) ls xs ≡ corrected ts ls xs
unfolding corrected
corrected_away t ts [] xs a = refl
corrected_away t ts (l ∷ ls) [] a = refl
corrected_away t ts (l ∷ ls) (x ∷ xs) a =
    ap₂ (λ (y : ℕ) (r : List ℕ). bit_xor l y ∷ r) (at_other t ts x (λ e. a.0 (sym e))) (corrected_away t ts ls xs a.1)

away_not : (x : ℕ) (xs : List ℕ) (i : ℕ) → Away x xs → i < length xs → get_or xs i 0 ≢ x
away_not x [] i a h e = not-suc-le-zero h
away_not x (y ∷ xs) zero a h e = a.0 e
away_not x (y ∷ xs) (suc i) a h e = away_not x xs i a.1 (le_of_suc-le-suc h) e

-- an error is taken from the symbol at its place, the i-th
pub corrected_one : (t : Term) (ts : List Term) (ls xs : List ℕ) (i : ℕ) → length ls ≡ length xs → Differ xs → i < length xs → get_or xs i 0 ≡ t.place
    → corrected (t ∷ ts) ls xs ≡ corrected ts (set ls i (bit_xor (get_or ls i 0) t.coef)) xs
unfolding corrected
corrected_one t ts [] [] i l d h e = absurd (not-suc-le-zero h)
corrected_one t ts [] (x ∷ xs) i l d h e = let f : ⊥ = omega arith in absurd f
corrected_one t ts (a ∷ ls) [] i l d h e = absurd (not-suc-le-zero h)
corrected_one t ts (a ∷ ls) (x ∷ xs) zero l d h e =
    ap₂ (λ (y : ℕ) (r : List ℕ). y ∷ r)
    (ap (bit_xor a) (at_here t ts x (sym e)) ∙ sym (xor_assoc a t.coef (at x ts)))
    (corrected_away t ts ls xs (subst (λ (y : ℕ). Away y xs) e d.0))
corrected_one t ts (a ∷ ls) (x ∷ xs) (suc i) l d h e =
    ap₂ (λ (y : ℕ) (r : List ℕ). bit_xor a y ∷ r)
    (at_other t ts x (λ q. away_not x xs i d.0 (le_of_suc-le-suc h) (e ∙ q)))
    (corrected_one t ts ls xs i (omega arith) d.1 (le_of_suc-le-suc h) e)

-- an error that is not 0, where no other stands, puts the line one further away
pub distance_one : (t : Term) (ts : List Term) (ls xs : List ℕ) (i : ℕ) → length ls ≡ length xs → Differ xs → i < length xs → get_or xs i 0 ≡ t.place
    → t.coef ≢ 0 → Apart t.place ts → distance ls (corrected (t ∷ ts) ls xs) ≡ 1 + distance ls (corrected ts ls xs)
unfolding corrected distance
distance_one t ts [] [] i l d h e nz a = absurd (not-suc-le-zero h)
distance_one t ts [] (x ∷ xs) i l d h e nz a = let f : ⊥ = omega arith in absurd f
distance_one t ts (b ∷ ls) [] i l d h e nz a = absurd (not-suc-le-zero h)
distance_one t ts (b ∷ ls) (x ∷ xs) zero l d h e nz a =
    let gone : at x ts ≡ 0 = at_apart x ts (subst (λ (y : ℕ). Apart y ts) (sym e) a) in
    let before : bit_xor b (at x ts) ≡ b = ap (bit_xor b) gone ∙ xor_zero_r b in
    let after : bit_xor b (at x (t ∷ ts)) ≡ bit_xor b t.coef =
    ap (bit_xor b) (at_here t ts x (sym e) ∙ ap (bit_xor t.coef) gone ∙ xor_zero_r t.coef) in
    let rest : distance ls (corrected (t ∷ ts) ls xs) ≡ distance ls (corrected ts ls xs) =
    ap (distance ls) (corrected_away t ts ls xs (subst (λ (y : ℕ). Away y xs) e d.0)) in
    ap₂ (λ (c : Bool) (n : ℕ). cond c 0 1 + n)
    (ap (eqb b) after ∙ eq_false b (bit_xor b t.coef) (λ q. nz (sym (xor_cancel b t.coef) ∙ ap (bit_xor b) (sym q) ∙ xor_self b))) rest
    ∙ ap (λ (n : ℕ). 1 + n)
    (sym (ap (λ (c : Bool). cond c 0 1 + distance ls (corrected ts ls xs)) (eq_true b (bit_xor b (at x ts)) (sym before)) ∙ zero-add (distance ls (corrected ts ls xs))))
distance_one t ts (b ∷ ls) (x ∷ xs) (suc i) l d h e nz a =
    let same : bit_xor b (at x (t ∷ ts)) ≡ bit_xor b (at x ts) =
    ap (bit_xor b) (at_other t ts x (λ q. away_not x xs i d.0 (le_of_suc-le-suc h) (e ∙ q))) in
    ap₂ (λ (y n : ℕ). cond (eqb b y) 0 1 + n) same (distance_one t ts ls xs i (omega arith) d.1 (le_of_suc-le-suc h) e nz a)
    ∙ omega arith

pub corrected_none : (ls xs : List ℕ) → corrected [] ls xs ≡ ls
unfolding corrected at
corrected_none [] xs = refl
corrected_none (l ∷ ls) [] = refl
corrected_none (l ∷ ls) (x ∷ xs) = ap₂ (λ (y : ℕ) (r : List ℕ). y ∷ r) (xor_zero_r l) (corrected_none ls xs)

-- ---- a turn of the correction

-- an error at its place in a line of n symbols, as a term at a locator
abbrev pub as_term : ℕ → Error → Term
as_term n e = record { coef = e.value; place = pow 2 (n - 1 - e.place.index) }

pub listed_more : (n : ℕ) (es : List Error) (k : ℕ) (e : Error) → k < length es → e ≡ get_or es k e
    → listed_in n (drop k es) ≡ as_term n e ∷ listed_in n (drop (k + 1) es)
listed_more n es k e h is = ap (listed_in n) (drop_more es k e h) ∙ ap (λ (d : Error). as_term n d ∷ listed_in n (drop (k + 1) es)) (sym is)

-- the errors before the k-th are taken from the line already: a turn for the k-th, which is e, at any length of the line below
-- the order of α
module _ (n : ℕ) (es : List Error) (k : ℕ) (e : Error) (h : k < length es) (is : e ≡ get_or es k e) (short : n ≤ 1023) (here : e.place.index < n) where
  first_place : get_or (locators n) e.place.index 0 ≡ pow 2 (n - 1 - e.place.index)
  first_place = locators_at n e.place.index here

  inside : e.place.index < length (locators n)
  inside = subst (λ (m : ℕ). e.place.index < m) (sym (locators_length n)) here

  pub turn_distinct : Distinct (listed_in n (drop k es)) → Apart (pow 2 (n - 1 - e.place.index)) (listed_in n (drop (k + 1) es)) × Distinct (listed_in n (drop (k + 1) es))
  turn_distinct d = subst Distinct (listed_more n es k e h is) d

  pub turn_set : (line : List ℕ) → length line ≡ n
      → corrected (listed_in n (drop k es)) line (locators n)
      ≡ corrected (listed_in n (drop (k + 1) es)) (set line e.place.index (bit_xor (get_or line e.place.index 0) e.value)) (locators n)
  turn_set line l =
      ap (λ (ts : List Term). corrected ts line (locators n)) (listed_more n es k e h is)
      ∙ corrected_one (as_term n e) (listed_in n (drop (k + 1) es)) line (locators n) e.place.index
      (l ∙ sym (locators_length n)) (locators_differ n short) inside first_place

  pub turn_skip : (line : List ℕ) → e.value ≡ 0
      → corrected (listed_in n (drop k es)) line (locators n) ≡ corrected (listed_in n (drop (k + 1) es)) line (locators n)
  turn_skip line z =
      ap (λ (ts : List Term). corrected ts line (locators n)) (listed_more n es k e h is)
      ∙ corrected_nothing (as_term n e) (listed_in n (drop (k + 1) es)) line (locators n) z

  pub turn_count : (line : List ℕ) → length line ≡ n → e.value ≢ 0 → Distinct (listed_in n (drop k es))
      → distance line (corrected (listed_in n (drop k es)) line (locators n))
      ≡ 1 + distance line (corrected (listed_in n (drop (k + 1) es)) line (locators n))
  turn_count line l nz d =
      ap (λ (ts : List Term). distance line (corrected ts line (locators n))) (listed_more n es k e h is)
      ∙ distance_one (as_term n e) (listed_in n (drop (k + 1) es)) line (locators n) e.place.index
      (l ∙ sym (locators_length n)) (locators_differ n short) inside first_place nz (turn_distinct d).0

pub turns_done : (n : ℕ) (es : List Error) (line : List ℕ) (k : ℕ) → length es ≤ k → corrected (listed_in n (drop k es)) line (locators n) ≡ line
turns_done n es line k h =
    ap (λ (l : List Error). corrected (listed_in n l) line (locators n)) (drop_all k es h) ∙ corrected_none line (locators n)
