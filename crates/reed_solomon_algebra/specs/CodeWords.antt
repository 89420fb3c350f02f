-- The Reed-Solomon code that mends t symbols: 514 message symbols and 2t behind them, n = 514 + 2t in all.
use Rattle.std.specs.Prelude.{◌≡◌, ℕ, zero, suc, ◌+◌, ◌*◌, List, [], ◌∷◌, reverse, length, take}
use Rattle.symbols.specs.Symbols.{Symbols, message_length}
use Rattle.field.specs.Field.{pow, α}
use Rattle.reed_solomon_algebra.specs.Polynomials.{times, Divisible}

-- the product of the x - α^j for j = 0 to k - 1; in this field - is +
unfoldable pub generator : ℕ → List ℕ
generator zero = 1 ∷ []
generator (suc k) = times (pow α k ∷ 1 ∷ []) (generator k)

-- symbol s of a line of n symbols is the coefficient of x^(n - 1 - s)
abbrev pub polynomial : List ℕ → List ℕ
polynomial line = reverse line

abbrev pub line_length : ℕ → ℕ
line_length t = message_length + 2 * t

-- a code word is n symbols whose polynomial is divisible by the generator
pub record CodeWord (t : ℕ) (line : List ℕ) : Type 0 where
  pub long : length line ≡ line_length t
  pub symbols : Symbols line
  pub divisible : Divisible (polynomial line) (generator (2 * t))

-- E(M): the one code word that begins with the message
pub record WordOf (t : ℕ) (message line : List ℕ) : Type 0 where
  pub begins : take message_length line ≡ message
  pub word : CodeWord t line
  pub only : (other : List ℕ) → CodeWord t other → take message_length other ≡ message → other ≡ line
