-- The laws of the field's product.
use Rattle.std.proofs.Common.{◌≡◌, ℕ, zero, suc, ◌+◌, ◌*◌, ◌/◌, ◌%◌, ◌^◌, ◌<◌, T, eqb, sym, refl, ap, ◌∙◌, ap₂, le_of_suc-le-suc, not-suc-le-zero, mod-lt, mod-eq_of_lt, pow-suc, arith, lit<, eqb→eq, pow_pos}
use lib.Arith.{mod-mul, digits_div, digits_mod}
use Rattle.std.proofs.lemmas.Nat.{field_of}
use lib.Bits.{bit_xor, xor_self, xor_zero_r, xor_shr, xor_mod, xor_lt}
use Rattle.field.specs.Field.{coefficient_times, tenth_power, times_x, mul_lowest, mul}
use Rattle.field.proofs.Every.{every, every_at}
use Rattle.field.proofs.Linear.{xor4, xor_double, Linear, linear_zero, linear_ext}

-- ---- one bit times a polynomial

coefficient_times_linear : (x : ℕ) → Linear (coefficient_times x)
coefficient_times_linear zero a b = refl
coefficient_times_linear (suc x) a b = refl

coefficient_times_zero : (x : ℕ) → coefficient_times x 0 ≡ 0
coefficient_times_zero zero = refl
coefficient_times_zero (suc x) = refl

coefficient_times_xor : (x y b : ℕ) → x < 2 → y < 2 → coefficient_times (bit_xor x y) b ≡ bit_xor (coefficient_times x b) (coefficient_times y b)
coefficient_times_xor zero y b hx hy = refl
coefficient_times_xor (suc zero) zero b hx hy = sym (xor_zero_r b)
coefficient_times_xor (suc zero) (suc zero) b hx hy = sym (xor_self b)
coefficient_times_xor (suc zero) (suc (suc y)) b hx hy = absurd (not-suc-le-zero (le_of_suc-le-suc (le_of_suc-le-suc hy)))
coefficient_times_xor (suc (suc x)) y b hx hy = absurd (not-suc-le-zero (le_of_suc-le-suc (le_of_suc-le-suc hx)))

coefficient_times_lt : (x b : ℕ) → b < 1024 → coefficient_times x b < 1024
coefficient_times_lt zero b h = lit< tt
coefficient_times_lt (suc x) b h = h

-- ---- times x

bit_of : (a k : ℕ) → ℕ
bit_of a k = a / 2 ^ k % 2

top_xor : (a b k c : ℕ) → coefficient_times (bit_xor a b / 2 ^ k % 2) c ≡ bit_xor (coefficient_times (a / 2 ^ k % 2) c) (coefficient_times (b / 2 ^ k % 2) c)
top_xor a b k c =
    ap (λ (x : ℕ). coefficient_times x c) (ap (λ (x : ℕ). x % 2) (xor_shr a b k) ∙ xor_mod (a / 2 ^ k) (b / 2 ^ k) 1)
    ∙ coefficient_times_xor (a / 2 ^ k % 2) (b / 2 ^ k % 2) c (mod-lt (a / 2 ^ k) (lit< tt)) (mod-lt (b / 2 ^ k) (lit< tt))

pub times_x_linear : Linear times_x
unfolding times_x
times_x_linear a b =
    ap₂ bit_xor
    (ap (λ (x : ℕ). x % 1024) (sym (xor_double a b)) ∙ xor_mod (a * 2) (b * 2) 10)
    (top_xor a b 9 _)
    ∙ xor4 (a * 2 % 1024) (b * 2 % 1024) _ _

pub times_x_lt : (b : ℕ) → times_x b < 1024
unfolding times_x
times_x_lt b = xor_lt 10 (b * 2 % 1024) _ (mod-lt (b * 2) (lit< tt)) (coefficient_times_lt (b / 512 % 2) _ (lit< tt))

times_x_coefficient_times : (x b : ℕ) → times_x (coefficient_times x b) ≡ coefficient_times x (times_x b)
times_x_coefficient_times zero b = linear_zero times_x times_x_linear
times_x_coefficient_times (suc x) b = refl

-- ---- the product is linear in each argument, whatever their sizes

low_xor : (a b c : ℕ) → coefficient_times (bit_xor a b % 2) c ≡ bit_xor (coefficient_times (a % 2) c) (coefficient_times (b % 2) c)
low_xor a b c = ap (λ (x : ℕ). coefficient_times x c) (xor_mod a b 1) ∙ coefficient_times_xor (a % 2) (b % 2) c (mod-lt a (lit< tt)) (mod-lt b (lit< tt))

from_linear_r : (n a : ℕ) → Linear (mul_lowest n a)
unfolding mul_lowest
from_linear_r zero a b c = refl
from_linear_r (suc n) a b c =
    ap₂ bit_xor (coefficient_times_linear (a % 2) b c)
    (ap (mul_lowest n (a / 2)) (times_x_linear b c) ∙ from_linear_r n (a / 2) (times_x b) (times_x c))
    ∙ xor4 (coefficient_times (a % 2) b) (coefficient_times (a % 2) c) (mul_lowest n (a / 2) (times_x b)) (mul_lowest n (a / 2) (times_x c))

from_linear_l : (n c : ℕ) → Linear (λ a. mul_lowest n a c)
unfolding mul_lowest
from_linear_l zero c a b = refl
from_linear_l (suc n) c a b =
    ap₂ bit_xor (low_xor a b c)
    (ap (λ (x : ℕ). mul_lowest n x (times_x c)) (xor_shr a b 1) ∙ from_linear_l n (times_x c) (a / 2) (b / 2))
    ∙ xor4 (coefficient_times (a % 2) c) (coefficient_times (b % 2) c) (mul_lowest n (a / 2) (times_x c)) (mul_lowest n (b / 2) (times_x c))

from_times_x : (n a b : ℕ) → mul_lowest n a (times_x b) ≡ times_x (mul_lowest n a b)
unfolding mul_lowest
from_times_x zero a b = sym (linear_zero times_x times_x_linear)
from_times_x (suc n) a b =
    ap₂ bit_xor (sym (times_x_coefficient_times (a % 2) b)) (from_times_x n (a / 2) (times_x b))
    ∙ sym (times_x_linear (coefficient_times (a % 2) b) (mul_lowest n (a / 2) (times_x b)))

from_lt : (n a b : ℕ) → b < 1024 → mul_lowest n a b < 1024
unfolding mul_lowest
from_lt zero a b h = lit< tt
from_lt (suc n) a b h = xor_lt 10 (coefficient_times (a % 2) b) (mul_lowest n (a / 2) (times_x b)) (coefficient_times_lt (a % 2) b h) (from_lt n (a / 2) (times_x b) (times_x_lt b))

pub times_x_mod : (b : ℕ) → times_x (b % 1024) ≡ times_x b
unfolding times_x
times_x_mod b =
    let low : b % 1024 * 2 % 1024 ≡ b * 2 % 1024 = omega arith in
    let top : b % 1024 / 512 % 2 ≡ b / 512 % 2 = omega (arith, field_of b 1 9) in
    ap₂ (λ (x y : ℕ). bit_xor x (coefficient_times y tenth_power)) low top

from_mod : (n a b : ℕ) → mul_lowest n (a % 2 ^ n) b ≡ mul_lowest n a b
unfolding mul_lowest
from_mod zero a b = refl
from_mod (suc n) a b =
    let digits : a % 2 ^ suc n ≡ a / 2 % 2 ^ n * 2 + a % 2 = ap (λ (x : ℕ). a % x) (pow-suc 2 n) ∙ mod-mul a (pow_pos n) (lit< tt) in
    ap₂ (λ (x y : ℕ). bit_xor (coefficient_times x b) (mul_lowest n y (times_x b)))
    (ap (λ (x : ℕ). x % 2) digits ∙ digits_mod (a / 2 % 2 ^ n) (mod-lt a (lit< tt)))
    (ap (λ (x : ℕ). x / 2) digits ∙ digits_div (a / 2 % 2 ^ n) (mod-lt a (lit< tt)))
    ∙ ap (bit_xor (coefficient_times (a % 2) b)) (from_mod n (a / 2) (times_x b))

pub mul_xor_r : (a b c : ℕ) → mul a (bit_xor b c) ≡ bit_xor (mul a b) (mul a c)
unfolding mul
mul_xor_r a b c = ap (mul_lowest 10 a) (xor_mod b c 10) ∙ from_linear_r 10 a (b % 1024) (c % 1024)

pub mul_xor_l : (a b c : ℕ) → mul (bit_xor a b) c ≡ bit_xor (mul a c) (mul b c)
unfolding mul
mul_xor_l a b c = from_linear_l 10 (c % 1024) a b

pub mul_lt : (a b : ℕ) → mul a b < 1024
unfolding mul
mul_lt a b = from_lt 10 a (b % 1024) (mod-lt b (lit< tt))

pub mul_mod_l : (a b : ℕ) → mul (a % 1024) b ≡ mul a b
unfolding mul
mul_mod_l a b = from_mod 10 a (b % 1024)

pub mul_mod_r : (a b : ℕ) → mul a (b % 1024) ≡ mul a b
unfolding mul
mul_mod_r a b = ap (mul_lowest 10 a) (omega arith)

pub mul_times_x_r : (a b : ℕ) → mul a (times_x b) ≡ times_x (mul a b)
unfolding mul
mul_times_x_r a b =
    ap (mul_lowest 10 a) (mod-eq_of_lt (times_x_lt b) ∙ sym (times_x_mod b)) ∙ from_times_x 10 a (b % 1024)

pub mul_zero_r : (a : ℕ) → mul a 0 ≡ 0
mul_zero_r a = linear_zero (mul a) (mul_xor_r a)

pub mul_zero_l : (a : ℕ) → mul 0 a ≡ 0
mul_zero_l a = linear_zero (λ x. mul x a) (λ x y. mul_xor_l x y a)

-- ---- what follows from the ten powers of x

-- the product of two powers of x is the same either way
basis_comm : T (every (λ i. every (λ j. eqb (mul (2 ^ i) (2 ^ j)) (mul (2 ^ j) (2 ^ i))) 10) 10)
unfolding mul mul_lowest times_x
basis_comm = tt

small_comm : (a b : ℕ) → a < 1024 → b < 1024 → mul a b ≡ mul b a
small_comm a b ha hb =
    linear_ext (λ x. mul x b) (mul b) (λ x y. mul_xor_l x y b) (mul_xor_r b) 10
    (λ i hi. linear_ext (mul (2 ^ i)) (λ y. mul y (2 ^ i)) (mul_xor_r (2 ^ i)) (λ x y. mul_xor_l x y (2 ^ i)) 10
    (λ j hj. eqb→eq (mul (2 ^ i) (2 ^ j)) (mul (2 ^ j) (2 ^ i))
    (every_at (λ j. eqb (mul (2 ^ i) (2 ^ j)) (mul (2 ^ j) (2 ^ i))) 10
    (every_at (λ i. every (λ j. eqb (mul (2 ^ i) (2 ^ j)) (mul (2 ^ j) (2 ^ i))) 10) 10 basis_comm i hi) j hj)) b hb) a ha

pub mul_comm : (a b : ℕ) → mul a b ≡ mul b a
mul_comm a b =
    sym (mul_mod_l a b) ∙ sym (mul_mod_r (a % 1024) b)
    ∙ small_comm (a % 1024) (b % 1024) (mod-lt a (lit< tt)) (mod-lt b (lit< tt))
    ∙ mul_mod_l b (a % 1024) ∙ mul_mod_r b a

pub mul_times_x_l : (a b : ℕ) → mul (times_x a) b ≡ times_x (mul a b)
mul_times_x_l a b = mul_comm (times_x a) b ∙ mul_times_x_r b a ∙ ap times_x (mul_comm b a)

mul_coefficient_times : (x b c : ℕ) → mul (coefficient_times x b) c ≡ coefficient_times x (mul b c)
mul_coefficient_times zero b c = mul_zero_l c
mul_coefficient_times (suc x) b c = refl

from_assoc : (n a b c : ℕ) → mul (mul_lowest n a b) c ≡ mul_lowest n a (mul b c)
unfolding mul_lowest
from_assoc zero a b c = mul_zero_l c
from_assoc (suc n) a b c =
    mul_xor_l (coefficient_times (a % 2) b) (mul_lowest n (a / 2) (times_x b)) c
    ∙ ap₂ bit_xor (mul_coefficient_times (a % 2) b c) (from_assoc n (a / 2) (times_x b) c ∙ ap (mul_lowest n (a / 2)) (mul_times_x_l b c))

pub mul_assoc : (a b c : ℕ) → mul (mul a b) c ≡ mul a (mul b c)
mul_assoc a b c = unfold mul in (from_assoc 10 a (b % 1024) c ∙ ap (mul_lowest 10 a) (mul_mod_l b c ∙ sym (mod-eq_of_lt (mul_lt b c))))

pub mul_one_l : (b : ℕ) → b < 1024 → mul 1 b ≡ b
unfolding mul mul_lowest
mul_one_l b h = xor_zero_r (b % 1024) ∙ mod-eq_of_lt h

pub mul_one_r : (a : ℕ) → a < 1024 → mul a 1 ≡ a
mul_one_r a h = mul_comm a 1 ∙ mul_one_l a h

pub mul_two : (b : ℕ) → mul 2 b ≡ times_x b
unfolding mul mul_lowest
mul_two b = xor_zero_r (times_x (b % 1024)) ∙ times_x_mod b

pub mul_left_comm : (a b c : ℕ) → mul a (mul b c) ≡ mul b (mul a c)
mul_left_comm a b c = sym (mul_assoc a b c) ∙ ap (λ (x : ℕ). mul x c) (mul_comm a b) ∙ mul_assoc b a c
