-- Errors and their syndromes: what explains syndromes, and the definitions by which such errors are found.
use Rattle.std.specs.Prelude.{◌≡◌, ℕ, zero, suc, ◌+◌, ◌-◌, ◌<◌, ◌≤◌, cond, ◌⊎◌, List, [], ◌∷◌, length, ◌==◌, slice_index}
use Rattle.field.specs.Field.{add, mul, pow, α}
use Rattle.reed_solomon_algebra.specs.Polynomials.{value}
use Rattle.reed_solomon_algebra.specs.Terms.{Term, power_sum, Small, Distinct, Placed}

-- s holds the power sums of the terms, from the j-th on
abbrev pub SumsFrom : ℕ → List ℕ → List Term → Type 0
SumsFrom j s e = (k : ℕ) → k < length s → slice_index s k ≡ power_sum (j + k) e

-- at most t errors, among the n symbols of a line, have these syndromes
pub record Explains (t n : ℕ) (s : List ℕ) (e : List Term) : Type 0 where
  pub few : length e ≤ t
  pub small : Small e
  pub distinct : Distinct e
  pub placed : Placed n e
  pub sums : SumsFrom 0 s e

-- the locators of some places in a line of n symbols
unfoldable pub located : ℕ → List ℕ → List ℕ
located n [] = []
located n (p ∷ ps) = pow α (n - 1 - p) ∷ located n ps

-- ---- polynomials at the errors

-- the sum of the products of p's coefficients with what stands at their places in s
unfoldable pub dot : List ℕ → List ℕ → ℕ
dot [] s = 0
dot (c ∷ p) [] = 0
dot (c ∷ p) (b ∷ s) = add (mul c b) (dot p s)

-- every coefficient is zero
abbrev pub Null : List ℕ → Type 0
Null p = (k : ℕ) → slice_index p k ≡ 0

-- each term with its coefficient times the value of p at its place
unfoldable pub weigh : List ℕ → List Term → List Term
weigh p [] = []
weigh p (t ∷ ts) = record { coef = mul t.coef (value t.place p); place = t.place } ∷ weigh p ts

-- each term is nothing or stands at a root of p
abbrev pub Located : List ℕ → List Term → Type 0
Located p [] = Unit {0}
Located p (t ∷ ts) = ((t.coef ≡ 0) ⊎ (value t.place p ≡ 0)) × Located p ts

-- each is an element at which p is zero
abbrev pub Roots : List ℕ → List ℕ → Type 0
Roots p [] = Unit {0}
Roots p (x ∷ xs) = (x < 1024) × (value x p ≡ 0) × Roots p xs

-- the roots of u among the first n powers of α, the highest first
unfoldable pub roots_below : List ℕ → ℕ → List ℕ
roots_below u zero = []
roots_below u (suc n) = cond (value (pow α n) u == 0) (pow α n ∷ roots_below u n) (roots_below u n)

-- ---- the values at places

-- x is among them
abbrev pub Has : ℕ → List ℕ → Type 0
Has x [] = ⊥
Has x (y ∷ ys) = (y ≡ x) ⊎ Has x ys

-- each term is nothing or stands at one of the places
abbrev pub Covered : List ℕ → List Term → Type 0
Covered xs [] = Unit {0}
Covered xs (t ∷ ts) = ((t.coef ≡ 0) ⊎ Has t.place xs) × Covered xs ts

-- the sum of what stands at x
unfoldable pub at : ℕ → List Term → ℕ
at x [] = 0
at x (t ∷ ts) = add (cond (t.place == x) t.coef 0) (at x ts)

-- the product of the ways from y to the first k places, but the i-th
unfoldable pub passed : List ℕ → ℕ → ℕ → ℕ → ℕ
passed xs i zero y = 1
passed xs i (suc k) y = cond (k == i) (passed xs i k y) (mul (passed xs i k y) (add y (slice_index xs k)))

-- each term with its coefficient times what f gives for its place
unfoldable pub weigh_by : (ℕ → ℕ) → List Term → List Term
weigh_by f [] = []
weigh_by f (t ∷ ts) = record { coef = mul t.coef (f t.place); place = t.place } ∷ weigh_by f ts

-- v is what every explanation that these places cover has at x
abbrev pub Agrees : List ℕ → List ℕ → ℕ → ℕ → Type 0
Agrees s xs x v = (e : List Term) → Small e → Covered xs e → SumsFrom 0 s e → v ≡ at x e

-- the sum of a list
unfoldable pub sum_of : List ℕ → ℕ
sum_of [] = 0
sum_of (x ∷ xs) = add x (sum_of xs)
