-- Definitions for proofs: terms, each a coefficient at a place, their power sums, and the terms of a line.
use Rattle.std.specs.Prelude.{◌≡◌, ℕ, zero, suc, ◌<◌, cond, ◌≢◌, List, [], ◌∷◌, ◌==◌}
use Rattle.field.specs.Field.{add, mul, pow, α}

-- an element of the field at another, which is called its place
pub record Term : Type 0 where
  pub coef : ℕ
  pub place : ℕ

-- the sum of the coefficients, each times the j-th power of its place
unfoldable pub power_sum : ℕ → List Term → ℕ
power_sum j [] = 0
power_sum j (t ∷ ts) = add (mul t.coef (pow t.place j)) (power_sum j ts)

-- coefficients and places are elements
abbrev pub Small : List Term → Type 0
Small [] = Unit {0}
Small (t ∷ ts) = (t.coef < 1024) × (t.place < 1024) × Small ts

-- no term stands at x
abbrev pub Apart : ℕ → List Term → Type 0
Apart x [] = Unit {0}
Apart x (t ∷ ts) = (t.place ≢ x) × Apart x ts

-- no two terms stand at one place
abbrev pub Distinct : List Term → Type 0
Distinct [] = Unit {0}
Distinct (t ∷ ts) = Apart t.place ts × Distinct ts

-- every coefficient is zero
abbrev pub Vanish : List Term → Type 0
Vanish [] = Unit {0}
Vanish (t ∷ ts) = (t.coef ≡ 0) × Vanish ts

-- every place is one of the first n powers of α
abbrev pub Placed : ℕ → List Term → Type 0
Placed n [] = Unit {0}
Placed n (t ∷ ts) = ((k : ℕ) × (k < n) × (t.place ≡ pow α k)) × Placed n ts

-- ---- lists of places

-- x is not among them
abbrev pub Away : ℕ → List ℕ → Type 0
Away x [] = Unit {0}
Away x (y ∷ ys) = (y ≢ x) × Away x ys

abbrev pub Differ : List ℕ → Type 0
Differ [] = Unit {0}
Differ (x ∷ xs) = Away x xs × Differ xs

-- each is one of the first n powers of α
abbrev pub Powers : ℕ → List ℕ → Type 0
Powers n [] = Unit {0}
Powers n (x ∷ xs) = ((k : ℕ) × (k < n) × (x ≡ pow α k)) × Powers n xs

-- ---- lines

-- the places of the symbols of a line of n symbols, the first symbol's first; they are called locators
unfoldable pub locators : ℕ → List ℕ
locators zero = []
locators (suc n) = pow α n ∷ locators n

-- values with their places; a line's syndromes are the power sums of its symbols at its locators
unfoldable pub terms : List ℕ → List ℕ → List Term
terms [] xs = []
terms (y ∷ ys) [] = []
terms (y ∷ ys) (x ∷ xs) = record { coef = y; place = x } ∷ terms ys xs

-- a term for each place where two lines differ
unfoldable pub difference : List ℕ → List ℕ → List ℕ → List Term
difference [] cs xs = []
difference (l ∷ ls) [] xs = []
difference (l ∷ ls) (c ∷ cs) [] = []
difference (l ∷ ls) (c ∷ cs) (x ∷ xs) = cond (l == c) (difference ls cs xs) (record { coef = add l c; place = x } ∷ difference ls cs xs)
