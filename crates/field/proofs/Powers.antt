-- Powers, the inverse, and the order of x.
use Rattle.std.proofs.Common.{◌≡◌, ℕ, zero, suc, ◌+◌, ◌-◌, ◌%◌, ◌^◌, ◌<◌, Bool, true, not, T, eqb, ◌≢◌, ◌⊎◌, sym, refl, ap, ◌∙◌, subst, inl, inr, le_of_suc-le-suc, not-suc-le-zero, add-zero, add-suc, suc-add, zero-add, arith, lit<, eqb→eq, T_not}
use lib.Bits.{bit_xor}
use Rattle.field.specs.Field.{times_x, mul_lowest, mul, pow, inv}
use Rattle.field.specs.Laws.{AlphaLaws, InverseLaws}
use Rattle.field.proofs.Every.{every, every_at, both, both_left, both_right}
use Rattle.field.proofs.Laws.{mul_lt, mul_comm, mul_assoc, mul_one_l, mul_one_r, mul_two, mul_zero_r, mul_zero_l, mul_mod_l}

pub pow_zero : (a : ℕ) → pow a 0 ≡ 1
unfolding pow
pow_zero a = refl

pub pow_suc : (a n : ℕ) → pow a (suc n) ≡ mul a (pow a n)
unfolding pow
pow_suc a n = refl

pub pow_lt : (a n : ℕ) → pow a n < 1024
unfolding pow
pow_lt a zero = lit< tt
pow_lt a (suc n) = mul_lt a (pow a n)

pub pow_add : (a m n : ℕ) → pow a (m + n) ≡ mul (pow a m) (pow a n)
pow_add a zero n = ap (pow a) (zero-add n) ∙ sym (mul_one_l (pow a n) (pow_lt a n)) ∙ ap (λ (x : ℕ). mul x (pow a n)) (sym (pow_zero a))
pow_add a (suc m) n =
    ap (pow a) (suc-add m n) ∙ pow_suc a (m + n) ∙ ap (mul a) (pow_add a m n)
    ∙ sym (mul_assoc a (pow a m) (pow a n))
    ∙ ap (λ (x : ℕ). mul x (pow a n)) (sym (pow_suc a m))

-- (a a)^n = a^(n + n)
pow_square : (a n : ℕ) → pow (mul a a) n ≡ pow a (n + n)
pow_square a zero = pow_zero (mul a a) ∙ sym (pow_zero a)
pow_square a (suc n) =
    pow_suc (mul a a) n ∙ ap (mul (mul a a)) (pow_square a n)
    ∙ mul_assoc a a (pow a (n + n))
    ∙ ap (mul a) (sym (pow_suc a (n + n))) ∙ sym (pow_suc a (suc (n + n)))
    ∙ ap (pow a) (omega arith)

-- the inverse by ten squarings
unfoldable pub chain : ℕ → ℕ → ℕ
chain zero s = 1
chain (suc n) s = mul s (chain n (mul s s))

ones : ℕ → ℕ
ones zero = 0
ones (suc n) = suc (ones n + ones n)

chain_pow : (n s : ℕ) → chain n s ≡ pow s (ones n)
unfolding chain ones
chain_pow zero s = sym (pow_zero s)
chain_pow (suc n) s =
    ap (mul s) (chain_pow n (mul s s) ∙ pow_square s (ones n)) ∙ sym (pow_suc s (ones n + ones n))

pub inv_chain : (a : ℕ) → inv a ≡ chain 9 (mul a a)
unfolding inv ones
inv_chain a = sym (pow_square a 511) ∙ sym (chain_pow 9 (mul a a))

all_inverse : T (every (λ k. eqb (mul (suc k) (chain 9 (mul (suc k) (suc k)))) 1) 1023)
unfolding chain mul mul_lowest times_x
all_inverse = tt

inverse_suc : (k : ℕ) → suc k < 1024 → mul (suc k) (inv (suc k)) ≡ 1
inverse_suc k h =
    ap (mul (suc k)) (inv_chain (suc k))
    ∙ eqb→eq (mul (suc k) (chain 9 (mul (suc k) (suc k)))) 1
    (every_at (λ k. eqb (mul (suc k) (chain 9 (mul (suc k) (suc k)))) 1) 1023 all_inverse k (omega arith))

pub mul_inv : (a : ℕ) → 0 < a → a < 1024 → mul a (inv a) ≡ 1
mul_inv zero p h = absurd (not-suc-le-zero p)
mul_inv (suc k) p h = inverse_suc k h

pub inv_lt : (a : ℕ) → inv a < 1024
unfolding inv
inv_lt a = pow_lt a 1022

pub inv_zero : inv 0 ≡ 0
unfolding inv
inv_zero = pow_suc 0 1021 ∙ mul_zero_l (pow 0 1021)

-- a factor that is not zero can be divided out
pub mul_undo : (a b : ℕ) → 0 < a → a < 1024 → b < 1024 → mul (inv a) (mul a b) ≡ b
mul_undo a b p ha hb =
    sym (mul_assoc (inv a) a b)
    ∙ ap (λ (x : ℕ). mul x b) (mul_comm (inv a) a ∙ mul_inv a p ha) ∙ mul_one_l b hb

pub mul_cancel : (a b c : ℕ) → 0 < a → a < 1024 → b < 1024 → c < 1024 → mul a b ≡ mul a c → b ≡ c
mul_cancel a b c p ha hb hc e = sym (mul_undo a b p ha hb) ∙ ap (mul (inv a)) e ∙ mul_undo a c p ha hc

pub mul_zero : (a b : ℕ) → a < 1024 → b < 1024 → mul a b ≡ 0 → (a ≡ 0) ⊎ (b ≡ 0)
mul_zero zero b ha hb e = inl refl
mul_zero (suc a) b ha hb e = inr (mul_cancel (suc a) b 0 (omega arith) ha hb (lit< tt) (e ∙ sym (mul_zero_r (suc a))))

pub mul_pos : (a b : ℕ) → a < 1024 → b < 1024 → 0 < a → 0 < b → 0 < mul a b
mul_pos a b ha hb pa pb = go (mul a b) refl
  where
    go : (m : ℕ) → mul a b ≡ m → 0 < m
    go zero e = elim (mul_zero a b ha hb e) [ inl z ↦ omega arith | inr z ↦ omega arith ]
    go (suc m) e = omega arith

pub pow_pos : (a n : ℕ) → a < 1024 → 0 < a → 0 < pow a n
pow_pos a zero ha pa = subst (λ (x : ℕ). 0 < x) (sym (pow_zero a)) (lit< tt)
pow_pos a (suc n) ha pa = subst (λ (x : ℕ). 0 < x) (sym (pow_suc a n)) (mul_pos a (pow a n) ha (pow_lt a n) pa (pow_pos a n ha pa))

-- ---- the order of x is 1023

pub pow_two_suc : (n : ℕ) → pow 2 (suc n) ≡ times_x (pow 2 n)
pow_two_suc n = pow_suc 2 n ∙ mul_two (pow 2 n)

turn : ℕ → ℕ → ℕ
turn zero b = b
turn (suc n) b = turn n (times_x b)

turn_pow : (n m : ℕ) → turn n (pow 2 m) ≡ pow 2 (n + m)
unfolding turn
turn_pow zero m = ap (pow 2) (sym (zero-add m))
turn_pow (suc n) m = ap (turn n) (sym (pow_two_suc m)) ∙ turn_pow n (suc m) ∙ ap (pow 2) (omega arith)

turned : turn 1023 1 ≡ 1
unfolding turn times_x
turned = refl

pub pow_two_whole : pow 2 1023 ≡ 1
pow_two_whole = sym (turn_pow 1023 0) ∙ ap (turn 1023) (pow_zero 2) ∙ turned

-- no one among b and the n - 1 that come after it
abbrev walk : ℕ → ℕ → Bool
walk zero b = true
walk (suc n) b = both (not (eqb b 1)) (walk n (times_x b))

walk_at : (n m : ℕ) → T (walk n (pow 2 m)) → (k : ℕ) → k < n → pow 2 (m + k) ≢ 1
walk_at zero m t k h e = not-suc-le-zero h
walk_at (suc n) m t zero h e =
    T_not (eqb (pow 2 m) 1) (both_left (not (eqb (pow 2 m) 1)) (walk n (times_x (pow 2 m))) t)
    (subst (λ (x : ℕ). T (eqb x 1)) (sym (ap (pow 2) (sym (add-zero m)) ∙ e)) tt)
walk_at (suc n) m t (suc k) h e =
    walk_at n (suc m)
    (subst (λ (x : ℕ). T (walk n x)) (sym (pow_two_suc m)) (both_right (not (eqb (pow 2 m) 1)) (walk n (times_x (pow 2 m))) t))
    k (le_of_suc-le-suc h)
    (ap (pow 2) (suc-add m k ∙ sym (add-suc m k)) ∙ e)

walked : T (walk 1022 2)
unfolding times_x
walked = tt

pub pow_two_not_one : (k : ℕ) → 0 < k → k < 1023 → pow 2 k ≢ 1
pow_two_not_one zero p h e = absurd (not-suc-le-zero p)
pow_two_not_one (suc k) p h e =
    walk_at 1022 1 (subst (λ (x : ℕ). T (walk 1022 x)) (sym (pow_suc 2 0 ∙ ap (mul 2) (pow_zero 2) ∙ mul_one_r 2 (lit< tt))) walked) k (omega arith)
    (ap (pow 2) (omega arith) ∙ e)

pub pow_two_apart : (i j : ℕ) → i < j → j < 1023 → pow 2 i ≢ pow 2 j
pow_two_apart i j p h e =
    pow_two_not_one (j - i) (omega arith) (omega arith)
    (sym (mul_cancel (pow 2 i) 1 (pow 2 (j - i)) (pow_pos 2 i (lit< tt) (lit< tt)) (pow_lt 2 i) (lit< tt) (pow_lt 2 (j - i))
    (mul_one_r (pow 2 i) (pow_lt 2 i) ∙ e ∙ ap (pow 2) (omega arith) ∙ pow_add 2 i (j - i))))

pow_mod_base : (a n : ℕ) → pow (a % 1024) n ≡ pow a n
pow_mod_base a zero = pow_zero (a % 1024) ∙ sym (pow_zero a)
pow_mod_base a (suc n) =
    pow_suc (a % 1024) n ∙ mul_mod_l a (pow (a % 1024) n) ∙ ap (mul a) (pow_mod_base a n) ∙ sym (pow_suc a n)

pub inv_mod : (a : ℕ) → inv (a % 1024) ≡ inv a
unfolding inv
inv_mod a = pow_mod_base a 1022

-- ---- the laws together

one_bit : T (every (λ i. eqb (turn i 1) (2 ^ i)) 10)
unfolding turn times_x
one_bit = tt

tenth : turn 10 1 ≡ bit_xor (turn 3 1) 1
unfolding turn times_x
tenth = refl

pow_turn : (n : ℕ) → pow 2 n ≡ turn n 1
pow_turn n = ap (pow 2) (sym (add-zero n)) ∙ sym (turn_pow n 0) ∙ ap (turn n) (pow_zero 2)

pub alpha_laws : AlphaLaws
alpha_laws =
    record {
      one_bit = λ i h. pow_turn i ∙ eqb→eq (turn i 1) (2 ^ i) (every_at (λ i. eqb (turn i 1) (2 ^ i)) 10 one_bit i h);
      modulus = pow_turn 10 ∙ tenth ∙ ap (λ (x : ℕ). bit_xor x 1) (sym (pow_turn 3));
      whole = pow_two_whole;
      distinct = pow_two_apart;
    }

pub inverse_laws : InverseLaws
inverse_laws = record { inverts = mul_inv; inverts_zero = inv_zero; no_zero_divisors = mul_zero }
