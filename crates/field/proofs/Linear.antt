-- Exclusive or as an addition, and functions that pass through it.
use Rattle.std.proofs.Common.{◌≡◌, ℕ, zero, suc, ◌*◌, ◌/◌, ◌%◌, ◌^◌, ◌<◌, sym, ap, ◌∙◌, subst, ap₂, le_of_suc-le-suc, not-suc-le-zero, add-zero, mod-lt, one-mul, zero-mul, one-add, arith}
use lib.Arith.{lt-one}
use lib.Bits.{bit_xor, xor_assoc, xor_comm, xor_self, xor_zero_r, xor_block, xor_shifted}
use Rattle.std.proofs.lemmas.Nat.{pow_pos, shr_split, shr_below}

-- ---- the laws of an addition

pub xor4 : (a b c d : ℕ) → bit_xor (bit_xor a b) (bit_xor c d) ≡ bit_xor (bit_xor a c) (bit_xor b d)
xor4 a b c d =
    xor_assoc a b (bit_xor c d)
    ∙ ap (bit_xor a) (sym (xor_assoc b c d) ∙ ap (λ (x : ℕ). bit_xor x d) (xor_comm b c) ∙ xor_assoc c b d)
    ∙ sym (xor_assoc a c (bit_xor b d))

pub xor_cancel : (a b : ℕ) → bit_xor a (bit_xor a b) ≡ b
xor_cancel a b = sym (xor_assoc a a b) ∙ ap (λ (x : ℕ). bit_xor x b) (xor_self a)

-- a sum of zero has equal parts
pub xor_zero_eq : (a b : ℕ) → bit_xor a b ≡ 0 → a ≡ b
xor_zero_eq a b e = sym (xor_zero_r a) ∙ ap (bit_xor a) (sym e) ∙ xor_cancel a b

pub xor_double : (a b : ℕ) → bit_xor (a * 2) (b * 2) ≡ bit_xor a b * 2
xor_double a b =
    ap₂ bit_xor (sym (add-zero (a * 2))) (sym (add-zero (b * 2)))
    ∙ xor_block 1 a b 0 0 (pow_pos 1) (pow_pos 1)
    ∙ add-zero (bit_xor a b * 2)

-- ---- functions that pass through it

abbrev pub Linear : (ℕ → ℕ) → Type 0
Linear f = (a b : ℕ) → f (bit_xor a b) ≡ bit_xor (f a) (f b)

pub linear_zero : (f : ℕ → ℕ) → Linear f → f 0 ≡ 0
linear_zero f l = sym (xor_cancel (f 0) (f 0)) ∙ ap (bit_xor (f 0)) (sym (l 0 0)) ∙ xor_self (f 0)

-- two such functions that are equal at the powers of two are equal
pub linear_ext : (f g : ℕ → ℕ) → Linear f → Linear g → (k : ℕ) → ((i : ℕ) → i < k → f (2 ^ i) ≡ g (2 ^ i)) → (a : ℕ) → a < 2 ^ k → f a ≡ g a
linear_ext f g lf lg zero same a h =
    ap f (lt-one h) ∙ linear_zero f lf ∙ sym (linear_zero g lg) ∙ ap g (sym (lt-one h))
linear_ext f g lf lg (suc k) same a h =
    let rest : f (a % 2 ^ k) ≡ g (a % 2 ^ k) = linear_ext f g lf lg k (λ i p. same i (omega arith)) (a % 2 ^ k) (mod-lt a (pow_pos k)) in
    let parts : bit_xor (a / 2 ^ k * 2 ^ k) (a % 2 ^ k) ≡ a = xor_shifted (a / 2 ^ k) k (a % 2 ^ k) (mod-lt a (pow_pos k)) ∙ shr_split a k in
    ap f (sym parts) ∙ lf (a / 2 ^ k * 2 ^ k) (a % 2 ^ k)
    ∙ ap₂ bit_xor (top (a / 2 ^ k) (shr_below a 1 k (subst (λ (m : ℕ). a < 2 ^ m) (sym (one-add k)) h))) rest
    ∙ sym (lg (a / 2 ^ k * 2 ^ k) (a % 2 ^ k)) ∙ ap g parts
  where
    top : (q : ℕ) → q < 2 → f (q * 2 ^ k) ≡ g (q * 2 ^ k)
    top zero _ = ap f (zero-mul (2 ^ k)) ∙ linear_zero f lf ∙ sym (linear_zero g lg) ∙ ap g (sym (zero-mul (2 ^ k)))
    top (suc zero) _ = ap f (one-mul (2 ^ k)) ∙ same k (omega arith) ∙ ap g (sym (one-mul (2 ^ k)))
    top (suc (suc q)) p = absurd (not-suc-le-zero (le_of_suc-le-suc (le_of_suc-le-suc p)))
