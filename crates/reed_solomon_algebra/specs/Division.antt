-- Definitions for proofs and code: the code word worked out by dividing, and what it is to vanish at the generator's roots.
use Rattle.std.specs.Prelude.{◌≡◌, ℕ, ◌*◌, ◌<◌, List, [], ◌∷◌, ◌++◌, reverse, drop, replicate}
use Rattle.code.specs.Codes.{Model}
use Rattle.field.specs.Field.{add, pow, α}
use Rattle.reed_solomon_algebra.specs.Polynomials.{value, plus, scale}
use Rattle.reed_solomon_algebra.specs.CodeWords.{generator, polynomial, line_length}

-- the line as a polynomial is zero at α^0 to α^(k - 1)
abbrev pub Vanishes : ℕ → List ℕ → Type 0
Vanishes k line = (j : ℕ) → j < k → value (pow α j) (polynomial line) ≡ 0

-- the coefficients of the generator below the first, which is 1, the highest first
unfoldable pub below_first : ℕ → List ℕ
below_first k = drop 1 (reverse (generator k))

-- dividing by a polynomial that begins with 1 and goes on with g, the highest coefficient first:
-- the remainder once one more symbol has come behind those divided so far
unfoldable pub step : List ℕ → List ℕ → ℕ → List ℕ
step g [] s = []
step g (r ∷ rs) s = plus (rs ++ 0 ∷ []) (scale (add s r) g)

unfoldable pub remainder : List ℕ → List ℕ → List ℕ → List ℕ
remainder g r [] = r
remainder g r (s ∷ line) = remainder g (step g r s) line

-- the 2t symbols that stand behind the message in its code word
unfoldable pub parity : ℕ → List ℕ → List ℕ
parity t message = remainder (below_first (2 * t)) (replicate (2 * t) 0) message

unfoldable pub encode : ℕ → List ℕ → List ℕ
encode t message = message ++ parity t message

-- the code as every code is described
abbrev pub reed_solomon_code : ℕ → Model
reed_solomon_code t = record { n = line_length t; t = t; encode = encode t }
