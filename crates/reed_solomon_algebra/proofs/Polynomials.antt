-- Laws of polynomials.
use Rattle.std.proofs.Common.{◌≡◌, ℕ, zero, suc, ◌+◌, ◌<◌, ◌≤◌, List, [], ◌∷◌, ◌++◌, reverse, length, get_or, sym, refl, ap, ◌∙◌, subst, ap₂, zero-add, arith}
use mathlib.Core.List.{reverse-cons}
use lib.Bits.{bit_xor, xor_assoc, xor_comm, xor_zero_r, xor_zero_l}
use lib.ListN.{length-reverse}
use Rattle.field.specs.Field.{mul, pow}
use Rattle.field.proofs.Linear.{xor4}
use Rattle.field.proofs.Laws.{mul_xor_r, mul_xor_l, mul_comm, mul_assoc, mul_one_l, mul_zero_r, mul_zero_l, mul_left_comm}
use Rattle.field.proofs.Powers.{pow_zero, pow_suc}
use Rattle.symbols.specs.Symbols.{Symbols}
use Rattle.reed_solomon_algebra.specs.Polynomials.{value, plus, scale, times}

-- ---- coefficients

pub plus_at : (p q : List ℕ) (k : ℕ) → get_or (plus p q) k 0 ≡ bit_xor (get_or p k 0) (get_or q k 0)
unfolding plus
plus_at [] q k = sym (xor_zero_l (get_or q k 0))
plus_at (a ∷ p) [] k = sym (xor_zero_r (get_or (a ∷ p) k 0))
plus_at (a ∷ p) (b ∷ q) zero = refl
plus_at (a ∷ p) (b ∷ q) (suc k) = plus_at p q k

pub scale_at : (c : ℕ) (p : List ℕ) (k : ℕ) → get_or (scale c p) k 0 ≡ mul c (get_or p k 0)
unfolding scale
scale_at c [] k = sym (mul_zero_r c)
scale_at c (a ∷ p) zero = refl
scale_at c (a ∷ p) (suc k) = scale_at c p k

pub scale_length : (c : ℕ) (p : List ℕ) → length (scale c p) ≡ length p
unfolding scale
scale_length c [] = refl
scale_length c (a ∷ p) = ap suc (scale_length c p)

pub plus_length : (p q : List ℕ) → length p ≤ length q → length (plus p q) ≡ length q
unfolding plus
plus_length [] q h = refl
plus_length (a ∷ p) [] h = omega arith
plus_length (a ∷ p) (b ∷ q) h = ap suc (plus_length p q (omega arith))

pub plus_length_left : (p q : List ℕ) → length q ≤ length p → length (plus p q) ≡ length p
unfolding plus
plus_length_left [] [] h = refl
plus_length_left [] (b ∷ q) h = omega arith
plus_length_left (a ∷ p) [] h = refl
plus_length_left (a ∷ p) (b ∷ q) h = ap suc (plus_length_left p q (omega arith))

pub times_length : (a : ℕ) (p g : List ℕ) → 0 < length g → length (times (a ∷ p) g) ≡ length p + length g
unfolding times
times_length a [] g h =
    plus_length_left (scale a g) (0 ∷ []) (omega (arith, scale_length a g)) ∙ scale_length a g ∙ sym (zero-add (length g))
times_length a (b ∷ p) g h =
    let l : length (times (b ∷ p) g) ≡ length p + length g = times_length b p g h in
    plus_length (scale a g) (0 ∷ times (b ∷ p) g) (omega (arith, scale_length a g)) ∙ omega arith

-- ---- values

pub value_plus : (x : ℕ) (p q : List ℕ) → value x (plus p q) ≡ bit_xor (value x p) (value x q)
unfolding plus value
value_plus x [] q = sym (xor_zero_l (value x q))
value_plus x (a ∷ p) [] = sym (xor_zero_r (bit_xor a (mul x (value x p))))
value_plus x (a ∷ p) (b ∷ q) =
    ap (bit_xor (bit_xor a b)) (ap (mul x) (value_plus x p q) ∙ mul_xor_r x (value x p) (value x q))
    ∙ xor4 a b (mul x (value x p)) (mul x (value x q))

pub value_scale : (x c : ℕ) (p : List ℕ) → value x (scale c p) ≡ mul c (value x p)
unfolding scale value
value_scale x c [] = sym (mul_zero_r c)
value_scale x c (a ∷ p) =
    ap (bit_xor (mul c a)) (ap (mul x) (value_scale x c p) ∙ mul_left_comm x c (value x p))
    ∙ sym (mul_xor_r c a (mul x (value x p)))

pub value_times : (x : ℕ) (p q : List ℕ) → value x (times p q) ≡ mul (value x p) (value x q)
unfolding times value
value_times x [] q = sym (mul_zero_l (value x q))
value_times x (a ∷ p) q =
    value_plus x (scale a q) (0 ∷ times p q)
    ∙ ap₂ bit_xor (value_scale x a q) (ap (mul x) (value_times x p q) ∙ sym (mul_assoc x (value x p) (value x q)))
    ∙ sym (mul_xor_l a (mul x (value x p)) (value x q))

pub value_append : (x : ℕ) (p q : List ℕ) → value x q < 1024 → value x (p ++ q) ≡ bit_xor (value x p) (mul (pow x (length p)) (value x q))
unfolding value
value_append x [] q h = sym (ap (λ (y : ℕ). mul y (value x q)) (pow_zero x) ∙ mul_one_l (value x q) h)
value_append x (a ∷ p) q h =
    ap (bit_xor a) (ap (mul x) (value_append x p q h)
    ∙ mul_xor_r x (value x p) (mul (pow x (length p)) (value x q))
    ∙ ap (bit_xor (mul x (value x p))) (sym (mul_assoc x (pow x (length p)) (value x q)) ∙ ap (λ (y : ℕ). mul y (value x q)) (sym (pow_suc x (length p)))))
    ∙ sym (xor_assoc a (mul x (value x p)) (mul (pow x (suc (length p))) (value x q)))

-- ---- a line, the highest coefficient first

unfoldable pub line_value : ℕ → List ℕ → ℕ
line_value x [] = 0
line_value x (a ∷ line) = bit_xor (mul a (pow x (length line))) (line_value x line)

pub value_one : (x a : ℕ) → value x (a ∷ []) ≡ a
unfolding value
value_one x a = ap (bit_xor a) (mul_zero_r x) ∙ xor_zero_r a

pub value_reverse : (x a : ℕ) (line : List ℕ) → a < 1024 → value x (reverse (a ∷ line)) ≡ bit_xor (mul a (pow x (length line))) (value x (reverse line))
value_reverse x a line h =
    ap (value x) (reverse-cons a line)
    ∙ value_append x (reverse line) (a ∷ []) (subst (λ (y : ℕ). y < 1024) (sym (value_one x a)) h)
    ∙ ap (bit_xor (value x (reverse line))) (ap₂ mul (ap (pow x) (length-reverse line)) (value_one x a) ∙ mul_comm (pow x (length line)) a)
    ∙ xor_comm (value x (reverse line)) (mul a (pow x (length line)))

pub first_symbol : (a : ℕ) (line : List ℕ) → Symbols (a ∷ line) → a < 1024
first_symbol a line s = s 0 (omega arith)

pub rest_symbols : (a : ℕ) (line : List ℕ) → Symbols (a ∷ line) → Symbols line
rest_symbols a line s k h = s (suc k) (omega arith)

pub value_line : (x : ℕ) (line : List ℕ) → Symbols line → value x (reverse line) ≡ line_value x line
unfolding line_value value
value_line x [] s = refl
value_line x (a ∷ line) s =
    value_reverse x a line (first_symbol a line s)
    ∙ ap (bit_xor (mul a (pow x (length line)))) (value_line x line (rest_symbols a line s))
