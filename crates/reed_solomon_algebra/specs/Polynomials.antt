-- Polynomials over the field of 1,024 elements: lists of coefficients, the constant term first.
use Rattle.std.specs.Prelude.{◌≡◌, ℕ, ◌<◌, List, [], ◌∷◌, slice_index}
use Rattle.field.specs.Field.{add, mul}

-- the value at x, by Horner's rule
unfoldable pub value : ℕ → List ℕ → ℕ
value x [] = 0
value x (a ∷ p) = add a (mul x (value x p))

unfoldable pub plus : List ℕ → List ℕ → List ℕ
plus [] q = q
plus (a ∷ p) [] = a ∷ p
plus (a ∷ p) (b ∷ q) = add a b ∷ plus p q

-- the element c times a polynomial
unfoldable pub scale : ℕ → List ℕ → List ℕ
scale c [] = []
scale c (a ∷ p) = mul c a ∷ scale c p

unfoldable pub times : List ℕ → List ℕ → List ℕ
times [] q = []
times (a ∷ p) q = plus (scale a q) (0 ∷ times p q)

-- some polynomial times g is p
pub record Divisible (p g : List ℕ) : Type 0 where
  pub quotient : List ℕ
  pub exact : p ≡ times quotient g

-- each coefficient is an element of the field; those past the end count as 0
abbrev pub Elements : List ℕ → Type 0
Elements p = (k : ℕ) → slice_index p k < 1024
