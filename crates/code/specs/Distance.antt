-- The distance of two lists, their sum symbol by symbol, and what everyone expects of the two.
use Rattle.std.specs.Prelude.{◌≡◌, ℕ, ◌+◌, ◌≤◌, cond, List, [], ◌∷◌, length, Some, None, Option, ◌==◌, bit_xor}

-- in how many places two lists of the same length differ
unfoldable pub distance : List ℕ → List ℕ → ℕ
distance [] ys = 0
distance (x ∷ xs) [] = 0
distance (x ∷ xs) (y ∷ ys) = cond (x == y) 0 1 + distance xs ys

-- the second list added to the first, symbol by symbol: each bit modulo 2, and nothing past the second list's end
unfoldable pub plus : List ℕ → List ℕ → List ℕ
plus [] ys = []
plus (x ∷ xs) [] = x ∷ xs
plus (x ∷ xs) (y ∷ ys) = bit_xor x y ∷ plus xs ys

-- the distance was asked of two lists; there is none where their lengths differ
abbrev pub Measured : List ℕ → List ℕ → Option ℕ → Type 0
Measured x y None = length x ≡ length y → ⊥
Measured x y (Some d) = (length x ≡ length y) × (d ≡ distance x y)

-- the laws of the distance
pub record DistanceLaws : Type 0 where
  pub equal_zero : (x : List ℕ) → distance x x ≡ 0
  pub zero_equal : (x y : List ℕ) → length x ≡ length y → distance x y ≡ 0 → x ≡ y
  pub symmetric : (x y : List ℕ) → distance x y ≡ distance y x
  pub triangle : (x y z : List ℕ) → length x ≡ length y → length y ≡ length z → distance x z ≤ distance x y + distance y z
  pub sum_unmoved : (x y z : List ℕ) → distance (plus x z) (plus y z) ≡ distance x y
