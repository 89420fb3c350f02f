-- Terms at distinct places, at most m of them, whose first m power sums are zero, are all zero.
use Rattle.std.proofs.Common.{◌≡◌, ℕ, zero, suc, ◌<◌, ◌≤◌, List, [], ◌∷◌, length, sym, refl, ap, ◌∙◌, subst, ap₂, inl, inr, le_of_suc-le-suc, not-suc-le-zero, arith}
use lib.Bits.{bit_xor, xor_lt, xor_self}
use Rattle.field.specs.Field.{mul, pow}
use Rattle.reed_solomon_algebra.specs.Terms.{Term, power_sum, Small, Apart, Distinct, Vanish}
use Rattle.field.proofs.Linear.{xor4, xor_zero_eq}
use Rattle.field.proofs.Laws.{mul_xor_r, mul_xor_l, mul_lt, mul_assoc, mul_one_r, mul_zero_r, mul_left_comm}
use Rattle.field.proofs.Powers.{pow_suc, pow_zero, mul_zero}

-- each coefficient times the way from x to its place
shift : ℕ → List Term → List Term
shift x [] = []
shift x (t ∷ ts) = record { coef = mul t.coef (bit_xor t.place x); place = t.place } ∷ shift x ts

shift_length : (x : ℕ) (ts : List Term) → length (shift x ts) ≡ length ts
unfolding shift
shift_length x [] = refl
shift_length x (t ∷ ts) = ap suc (shift_length x ts)

shift_small : (x : ℕ) (ts : List Term) → Small ts → Small (shift x ts)
unfolding shift
shift_small x [] s = tt
shift_small x (t ∷ ts) s = (mul_lt t.coef (bit_xor t.place x), s.1, shift_small x ts s.2)

shift_apart : (x y : ℕ) (ts : List Term) → Apart y ts → Apart y (shift x ts)
unfolding shift
shift_apart x y [] a = tt
shift_apart x y (t ∷ ts) a = (a.0, shift_apart x y ts a.1)

shift_distinct : (x : ℕ) (ts : List Term) → Distinct ts → Distinct (shift x ts)
unfolding shift
shift_distinct x [] d = tt
shift_distinct x (t ∷ ts) d = (shift_apart x t.place ts d.0, shift_distinct x ts d.1)

shift_term : (d p x j : ℕ)
    → mul (mul d (bit_xor p x)) (pow p j) ≡ bit_xor (mul d (pow p (suc j))) (mul x (mul d (pow p j)))
shift_term d p x j =
    mul_assoc d (bit_xor p x) (pow p j)
    ∙ ap (mul d) (mul_xor_l p x (pow p j)) ∙ mul_xor_r d (mul p (pow p j)) (mul x (pow p j))
    ∙ ap₂ bit_xor (ap (mul d) (sym (pow_suc p j))) (mul_left_comm d x (pow p j))

shift_sum : (x j : ℕ) (ts : List Term) → power_sum j (shift x ts) ≡ bit_xor (power_sum (suc j) ts) (mul x (power_sum j ts))
unfolding shift power_sum
shift_sum x j [] = sym (mul_zero_r x)
shift_sum x j (t ∷ ts) =
    ap₂ bit_xor (shift_term t.coef t.place x j) (shift_sum x j ts)
    ∙ xor4 (mul t.coef (pow t.place (suc j))) (mul x (mul t.coef (pow t.place j))) (power_sum (suc j) ts) (mul x (power_sum j ts))
    ∙ ap (bit_xor (bit_xor (mul t.coef (pow t.place (suc j))) (power_sum (suc j) ts)))
    (sym (mul_xor_r x (mul t.coef (pow t.place j)) (power_sum j ts)))

unshift : (x : ℕ) (ts : List Term) → x < 1024 → Small ts → Apart x ts → Vanish (shift x ts) → Vanish ts
unfolding shift
unshift x [] h s a v = tt
unshift x (t ∷ ts) h s a v = (
  elim (mul_zero t.coef (bit_xor t.place x) s.0 (xor_lt 10 t.place x s.1 h) v.0)
      [ inl z ↦ z | inr e ↦ absurd (a.0 (xor_zero_eq t.place x e)) ],
  unshift x ts h s.2 a.1 v.1,
)

vanish_sum : (j : ℕ) (ts : List Term) → Vanish ts → power_sum j ts ≡ 0
unfolding power_sum
vanish_sum j [] v = refl
vanish_sum j (t ∷ ts) v =
    ap₂ bit_xor (ap (λ (d : ℕ). mul d (pow t.place j)) v.0 ∙ Rattle.field.proofs.Laws.mul_zero_l (pow t.place j)) (vanish_sum j ts v.1)

pub key_lemma : (m : ℕ) (ts : List Term) → Small ts → Distinct ts → length ts ≤ m → ((j : ℕ) → j < m → power_sum j ts ≡ 0) → Vanish ts
unfolding power_sum
key_lemma m [] s d l z = tt
key_lemma zero (t ∷ ts) s d l z = absurd (not-suc-le-zero l)
key_lemma (suc m) (t ∷ ts) s d l z =
    let x = t.place in
    let sum : (j : ℕ) → j < suc m → power_sum j ts ≡ mul t.coef (pow t.place j) =
    λ j h. sym (xor_zero_eq (mul t.coef (pow t.place j)) (power_sum j ts) (z j h)) in
    let rest : Vanish ts =
    unshift t.place ts s.1 s.2 d.0
    (key_lemma m (shift t.place ts) (shift_small t.place ts s.2) (shift_distinct t.place ts d.1)
    (subst (λ (n : ℕ). n ≤ m) (sym (shift_length t.place ts)) (le_of_suc-le-suc l))
    (λ j h. shift_sum t.place j ts
    ∙ ap₂ bit_xor
    (sum (suc j) (omega arith) ∙ ap (mul t.coef) (pow_suc t.place j)
    ∙ mul_left_comm t.coef t.place (pow t.place j))
    (ap (mul t.place) (sum j (omega arith)))
    ∙ xor_self (mul t.place (mul t.coef (pow t.place j))))) in
    (sym (mul_one_r t.coef s.0) ∙ ap (mul t.coef) (sym (pow_zero t.place)) ∙ sym (sum 0 (omega arith)) ∙ vanish_sum 0 ts rest, rest)
