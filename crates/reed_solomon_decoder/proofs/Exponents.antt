-- Terms as exponents of α: lowering one, and their sum as the value of a polynomial.
use Rattle.std.proofs.Common.{◌≡◌, ℕ, suc, ◌+◌, ◌-◌, ◌*◌, ◌%◌, ◌<◌, ◌≤◌, Bool, true, false, cond, leb, List, [], ◌∷◌, length, get_or, drop, sym, ap, ◌∙◌, ap₂, inl, inr, add-zero, add-suc, mod-lt, suc-add, zero-add, arith, lit<}
use lib.Bits.{bit_xor, xor_assoc, xor_zero_r}
use Rattle.std.proofs.lemmas.List.{drop_more, drop_all}
use Rattle.std.proofs.lemmas.Bool.Decides.{leb_tells}
use Rattle.field.specs.Field.{mul, pow}
use Rattle.field.specs.Laws.{ExponentOf}
use Rattle.field.proofs.Laws.{mul_xor_r, mul_lt, mul_comm, mul_assoc, mul_one_l, mul_zero_r, mul_zero_l, mul_left_comm, mul_mod_l}
use Rattle.field.proofs.Powers.{pow_zero, pow_suc, pow_add, pow_lt, pow_pos, mul_cancel}
use Rattle.field.proofs.Logs.{pow_whole, pow_mod}
use Rattle.reed_solomon_algebra.specs.Polynomials.{value, Elements}
use Rattle.reed_solomon_algebra.proofs.Locators.{pow_pow}
use Rattle.reed_solomon_decoder.specs.Errors.{sum_of}
use Rattle.reed_solomon_decoder.specs.Exponents.{term_of, Lowered}
use Rattle.reed_solomon_decoder.proofs.Weighing.{value_lt}

pub term_power : (e : ℕ) → e < 1023 → term_of e ≡ pow 2 e
unfolding term_of
term_power e h =
    elim (leb_tells 1023 e) [
      | inl t ↦ let z : ⊥ = omega (arith, t.1) in absurd z
      | inr t ↦ ap (λ (b : Bool). cond b 0 (pow 2 e)) t.0
    ]

pub term_none : (e : ℕ) → 1023 ≤ e → term_of e ≡ 0
unfolding term_of
term_none e h =
    elim (leb_tells 1023 e) [
      | inl t ↦ ap (λ (b : Bool). cond b 0 (pow 2 e)) t.0
      | inr t ↦ let z : ⊥ = omega (arith, t.1) in absurd z
    ]

pub term_lt : (e : ℕ) → term_of e < 1024
unfolding term_of
term_lt e = go (leb 1023 e)
  where
    go : (b : Bool) → cond b 0 (pow 2 e) < 1024
    go true = lit< tt
    go false = pow_lt 2 e

-- ---- one exponent

pub some_exponent : (c e m : ℕ) → ExponentOf (c % 1024) e → term_of ((e + m) % 1023) ≡ mul c (pow 2 m)
some_exponent c e m x =
    term_power ((e + m) % 1023) (mod-lt (e + m) (lit< tt)) ∙ pow_mod (e + m) ∙ pow_add 2 e m
    ∙ ap (λ (y : ℕ). mul y (pow 2 m)) x.gives ∙ mul_mod_l c (pow 2 m)

pub no_exponent : (c m : ℕ) → c % 1024 ≡ 0 → term_of 1023 ≡ mul c (pow 2 m)
no_exponent c m z =
    term_none 1023 (omega arith) ∙ sym (sym (mul_mod_l c (pow 2 m)) ∙ ap (λ (y : ℕ). mul y (pow 2 m)) z ∙ mul_zero_l (pow 2 m))

pub lowered_none : (e k : ℕ) → 1023 ≤ e → mul (pow 2 k) (term_of 1023) ≡ term_of e
lowered_none e k h = ap (mul (pow 2 k)) (term_none 1023 (omega arith)) ∙ mul_zero_r (pow 2 k) ∙ sym (term_none e h)

pub lowered_down : (e k : ℕ) → e < 1023 → k ≤ e → mul (pow 2 k) (term_of (e - k)) ≡ term_of e
lowered_down e k h l =
    ap (mul (pow 2 k)) (term_power (e - k) (omega arith)) ∙ sym (pow_add 2 k (e - k)) ∙ ap (pow 2) (omega arith) ∙ sym (term_power e h)

pub lowered_around : (e k : ℕ) → e < k → k < 1023 → mul (pow 2 k) (term_of (e + (1023 - k))) ≡ term_of e
lowered_around e k l h =
    ap (mul (pow 2 k)) (term_power (e + (1023 - k)) (omega arith)) ∙ sym (pow_add 2 k (e + (1023 - k)))
    ∙ sym (pow_whole (k + (e + (1023 - k))) (omega arith)) ∙ ap (pow 2) (omega arith) ∙ sym (term_power e (omega arith))

-- ---- all of them

pub lowered_start : (u ts : List ℕ) (n k : ℕ) → get_or ts k 0 ≡ mul (get_or u k 0) (pow 2 (n * k))
    → mul (pow 2 k) (get_or ts k 0) ≡ mul (get_or u k 0) (pow (pow 2 (suc n)) k)
lowered_start u ts n k e =
    ap (mul (pow 2 k)) e ∙ mul_left_comm (pow 2 k) (get_or u k 0) (pow 2 (n * k))
    ∙ ap (mul (get_or u k 0)) (sym (pow_add 2 k (n * k)) ∙ ap (pow 2) (omega arith) ∙ sym (pow_pow 2 (suc n) k))

-- a place lower, the terms are those at the locator
pub term_here : (u : List ℕ) (n : ℕ) (ts : List ℕ) → Elements ts → Lowered u (suc n) ts → (k : ℕ) → k < length u
    → get_or ts k 0 ≡ mul (get_or u k 0) (pow (pow 2 n) k)
term_here u n ts b low k h =
    mul_cancel (pow 2 k) (get_or ts k 0) (mul (get_or u k 0) (pow (pow 2 n) k))
    (pow_pos 2 k (lit< tt) (lit< tt)) (pow_lt 2 k) (b k) (mul_lt (get_or u k 0) (pow (pow 2 n) k))
    (low k h
    ∙ ap (mul (get_or u k 0))
    (pow_pow 2 (suc n) k ∙ ap (pow 2) (omega arith) ∙ pow_add 2 k (k * n) ∙ ap (mul (pow 2 k)) (sym (pow_pow 2 n k)))
    ∙ mul_left_comm (get_or u k 0) (pow 2 k) (pow (pow 2 n) k))

pub lowered_next : (u : List ℕ) (n : ℕ) (ts fs : List ℕ) → Elements ts → Lowered u (suc n) ts
    → ((k : ℕ) → k < length u → mul (pow 2 k) (get_or fs k 0) ≡ get_or ts k 0) → Lowered u n fs
lowered_next u n ts fs b low next k h = next k h ∙ term_here u n ts b low k h

sum_from : (ts u : List ℕ) (x m : ℕ) → length ts ≡ length u
    → ((k : ℕ) → k < length u → get_or ts k 0 ≡ mul (get_or u k 0) (pow x (m + k)))
    → sum_of ts ≡ mul (pow x m) (value x u)
unfolding sum_of value
sum_from [] [] x m l h = sym (mul_zero_r (pow x m))
sum_from [] (a ∷ u) x m l h = let z : ⊥ = omega arith in absurd z
sum_from (e ∷ ts) [] x m l h = let z : ⊥ = omega arith in absurd z
sum_from (e ∷ ts) (a ∷ u) x m l h =
    ap₂ bit_xor
    (h 0 (omega arith) ∙ ap (λ (i : ℕ). mul a (pow x i)) (add-zero m) ∙ mul_comm a (pow x m))
    (sum_from ts u x (suc m) (omega arith) (λ k q. h (suc k) (omega arith) ∙ ap (λ (i : ℕ). mul (get_or u k 0) (pow x i)) (add-suc m k ∙ sym (suc-add m k)))
    ∙ ap (λ (y : ℕ). mul y (value x u)) (pow_suc x m ∙ mul_comm x (pow x m)) ∙ mul_assoc (pow x m) x (value x u))
    ∙ sym (mul_xor_r (pow x m) a (mul x (value x u)))

pub sum_value : (u : List ℕ) (n : ℕ) (ts : List ℕ) → Elements u → Elements ts → length ts ≡ length u → Lowered u (suc n) ts
    → sum_of ts ≡ value (pow 2 n) u
sum_value u n ts bu b l low =
    sum_from ts u (pow 2 n) 0 l (λ k h. term_here u n ts b low k h ∙ ap (λ (i : ℕ). mul (get_or u k 0) (pow (pow 2 n) i)) (sym (zero-add k)))
    ∙ ap (λ (y : ℕ). mul y (value (pow 2 n) u)) (pow_zero (pow 2 n)) ∙ mul_one_l (value (pow 2 n) u) (value_lt u (pow 2 n) bu)

-- ---- the loop of the sum

pub sum_turn : (xs : List ℕ) (k v sum all d : ℕ) → k < length xs → v ≡ get_or xs k d → bit_xor sum (sum_of (drop k xs)) ≡ all
    → bit_xor (bit_xor sum v) (sum_of (drop (k + 1) xs)) ≡ all
unfolding sum_of
sum_turn xs k v sum all d h is e =
    xor_assoc sum v (sum_of (drop (k + 1) xs))
    ∙ ap (bit_xor sum) (ap (λ (y : ℕ). bit_xor y (sum_of (drop (k + 1) xs))) is ∙ sym (ap sum_of (drop_more xs k d h))) ∙ e

pub sum_end : (xs : List ℕ) (k sum all : ℕ) → length xs ≤ k → bit_xor sum (sum_of (drop k xs)) ≡ all → sum ≡ all
unfolding sum_of
sum_end xs k sum all h e = sym (xor_zero_r sum) ∙ ap (λ (l : List ℕ). bit_xor sum (sum_of l)) (sym (drop_all k xs h)) ∙ e
