-- The sum of a polynomial's coefficients with power sums is a power sum of the weighed terms.
use Rattle.std.proofs.Common.{◌≡◌, ℕ, suc, ◌+◌, ◌<◌, ◌≤◌, List, [], ◌∷◌, length, drop, sym, refl, ap, ◌∙◌, subst, ap₂, le_of_suc-le-suc, not-suc-le-zero, add-zero, add-suc, suc-add, arith, lit<, length-drop, get_or-drop}
use lib.Bits.{bit_xor, xor_lt}
use Rattle.field.proofs.Linear.{xor4}
use Rattle.field.proofs.Laws.{mul_xor_r, mul_xor_l, mul_lt, mul_comm, mul_assoc, mul_zero_r, mul_zero_l, mul_left_comm}
use Rattle.field.proofs.Powers.{pow_suc, mul_zero}
use Rattle.reed_solomon_algebra.proofs.KeyLemma.{key_lemma}
use Rattle.field.specs.Field.{mul, pow}
use Rattle.reed_solomon_algebra.specs.Polynomials.{Elements, value}
use Rattle.reed_solomon_algebra.specs.Terms.{Apart, Distinct, Small, Term, Vanish, power_sum}
use Rattle.reed_solomon_decoder.specs.Errors.{Located, SumsFrom, dot, weigh}

weigh_length : (p : List ℕ) (ts : List Term) → length (weigh p ts) ≡ length ts
unfolding weigh
weigh_length p [] = refl
weigh_length p (t ∷ ts) = ap suc (weigh_length p ts)

weigh_small : (p : List ℕ) (ts : List Term) → Small ts → Small (weigh p ts)
unfolding weigh
weigh_small p [] s = tt
weigh_small p (t ∷ ts) s = (mul_lt t.coef (value t.place p), s.1, weigh_small p ts s.2)

weigh_apart : (p : List ℕ) (y : ℕ) (ts : List Term) → Apart y ts → Apart y (weigh p ts)
unfolding weigh
weigh_apart p y [] a = tt
weigh_apart p y (t ∷ ts) a = (a.0, weigh_apart p y ts a.1)

weigh_distinct : (p : List ℕ) (ts : List Term) → Distinct ts → Distinct (weigh p ts)
unfolding weigh
weigh_distinct p [] d = tt
weigh_distinct p (t ∷ ts) d = (weigh_apart p t.place ts d.0, weigh_distinct p ts d.1)

weigh_none : (j : ℕ) (ts : List Term) → power_sum j (weigh [] ts) ≡ 0
unfolding weigh power_sum value
weigh_none j [] = refl
weigh_none j (t ∷ ts) =
    ap₂ bit_xor (ap (λ (d : ℕ). mul d (pow t.place j)) (mul_zero_r t.coef) ∙ mul_zero_l (pow t.place j)) (weigh_none j ts)

-- d (c + x v) x^j = c (d x^j) + d v x^(j + 1)
weigh_term : (c d x v j : ℕ)
    → mul (mul d (bit_xor c (mul x v))) (pow x j) ≡ bit_xor (mul c (mul d (pow x j))) (mul (mul d v) (pow x (suc j)))
weigh_term c d x v j =
    mul_assoc d (bit_xor c (mul x v)) (pow x j)
    ∙ ap (mul d) (mul_xor_l c (mul x v) (pow x j))
    ∙ mul_xor_r d (mul c (pow x j)) (mul (mul x v) (pow x j))
    ∙ ap₂ bit_xor (mul_left_comm d c (pow x j))
    (ap (mul d) (ap (λ (y : ℕ). mul y (pow x j)) (mul_comm x v) ∙ mul_assoc v x (pow x j) ∙ ap (mul v) (sym (pow_suc x j)))
    ∙ sym (mul_assoc d v (pow x (suc j))))

weigh_cons : (c : ℕ) (p : List ℕ) (j : ℕ) (ts : List Term)
    → power_sum j (weigh (c ∷ p) ts) ≡ bit_xor (mul c (power_sum j ts)) (power_sum (suc j) (weigh p ts))
unfolding weigh power_sum value
weigh_cons c p j [] = sym (ap₂ bit_xor (mul_zero_r c) refl)
weigh_cons c p j (t ∷ ts) =
    ap₂ bit_xor (weigh_term c t.coef t.place (value t.place p) j) (weigh_cons c p j ts)
    ∙ xor4 (mul c (mul t.coef (pow t.place j))) (mul (mul t.coef (value t.place p)) (pow t.place (suc j)))
    (mul c (power_sum j ts)) (power_sum (suc j) (weigh p ts))
    ∙ ap (λ (y : ℕ). bit_xor y (bit_xor (mul (mul t.coef (value t.place p)) (pow t.place (suc j))) (power_sum (suc j) (weigh p ts))))
    (sym (mul_xor_r c (mul t.coef (pow t.place j)) (power_sum j ts)))

pub dot_sums : (p s : List ℕ) (j : ℕ) (ts : List Term) → length p ≤ length s → SumsFrom j s ts → dot p s ≡ power_sum j (weigh p ts)
unfolding dot
dot_sums [] s j ts l h = sym (weigh_none j ts)
dot_sums (c ∷ p) [] j ts l h = absurd (not-suc-le-zero l)
dot_sums (c ∷ p) (b ∷ s) j ts l h =
    ap₂ bit_xor
    (ap (mul c) (h 0 (omega arith) ∙ ap (λ (i : ℕ). power_sum i ts) (add-zero j)))
    (dot_sums p s (suc j) ts (le_of_suc-le-suc l) (λ k q. h (suc k) (omega arith) ∙ ap (λ (i : ℕ). power_sum i ts) (add-suc j k ∙ sym (suc-add j k))))
    ∙ sym (weigh_cons c p j ts)

pub sums_drop : (j : ℕ) (s : List ℕ) (ts : List Term) → SumsFrom 0 s ts → SumsFrom j (drop j s) ts
sums_drop j s ts h k q =
    get_or-drop j s k 0 ∙ h (j + k) (omega (arith, length-drop j s)) ∙ ap (λ (i : ℕ). power_sum i ts) (omega arith)

pub value_lt : (p : List ℕ) (x : ℕ) → Elements p → value x p < 1024
unfolding value
value_lt [] x b = lit< tt
value_lt (c ∷ p) x b = xor_lt 10 c (mul x (value x p)) (b 0) (mul_lt x (value x p))

located : (p : List ℕ) (ts : List Term) → Elements p → Small ts → Vanish (weigh p ts) → Located p ts
unfolding weigh
located p [] b s v = tt
located p (t ∷ ts) b s v =
    (mul_zero t.coef (value t.place p) s.0 (value_lt p t.place b) v.0, located p ts b s.2 v.1)

-- A polynomial that annihilates the syndromes is zero at every error.
pub locator : (t : ℕ) (u s : List ℕ) (e : List Term) → Elements u → Small e → Distinct e → length e ≤ t → length u + t ≤ length s + 1
    → SumsFrom 0 s e → ((j : ℕ) → j < t → dot u (drop j s) ≡ 0) → Located u e
locator t u s e b sm d le fit sums kills =
    located u e b sm
    (key_lemma t (weigh u e) (weigh_small u e sm) (weigh_distinct u e d)
    (subst (λ (n : ℕ). n ≤ t) (sym (weigh_length u e)) le)
    (λ j h. sym (dot_sums u (drop j s) j e (omega (arith, length-drop j s)) (sums_drop j s e sums)) ∙ kills j h))
