-- GF(2^10), the field of 1,024 elements: polynomials over bits modulo x^10 + x^3 + 1.
-- An element is the number whose bits are the polynomial's coefficients, the constant term lowest.
-- A number above 1,023 stands for its lowest ten bits.
use Rattle.std.specs.Prelude.{ℕ, zero, suc, ◌*◌, ◌/◌, ◌%◌, bit_xor}

abbrev pub add : ℕ → ℕ → ℕ
add a b = bit_xor a b

-- a coefficient, 0 or 1, times the element b
abbrev pub coefficient_times : ℕ → ℕ → ℕ
coefficient_times zero b = 0
coefficient_times (suc x) b = b

-- x^10 modulo x^10 + x^3 + 1: it is x^3 + 1
abbrev pub tenth_power : ℕ
tenth_power = 9

-- the element b times x: what would be the coefficient of x^10 goes with x^3 + 1
unfoldable pub times_x : ℕ → ℕ
times_x b = add (b * 2 % 1024) (coefficient_times (b / 512 % 2) tenth_power)

-- the sum of the lowest n coefficients of a, each times its power of x times b
unfoldable pub mul_lowest : ℕ → ℕ → ℕ → ℕ
mul_lowest zero a b = 0
mul_lowest (suc n) a b = add (coefficient_times (a % 2) b) (mul_lowest n (a / 2) (times_x b))

unfoldable pub mul : ℕ → ℕ → ℕ
mul a b = mul_lowest 10 a (b % 1024)

unfoldable pub pow : ℕ → ℕ → ℕ
pow a zero = 1
pow a (suc n) = mul a (pow a n)

-- the element whose product with a is 1; it is 0 for 0
unfoldable pub inv : ℕ → ℕ
inv a = pow a 1022

-- the polynomial x
abbrev pub α : ℕ
α = 2
