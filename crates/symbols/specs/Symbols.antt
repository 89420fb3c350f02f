-- Symbols and messages, as every layer means them.
use Rattle.std.specs.Prelude.{◌≡◌, ℕ, ◌<◌, ◌≤◌, List, length, slice_index}

-- a symbol is a number of ten bits
abbrev pub Symbol : ℕ → Type 0
Symbol x = x < 1024

-- each number of the list is a symbol
abbrev pub Symbols : List ℕ → Type 0
Symbols xs = (k : ℕ) → k < length xs → Symbol (slice_index xs k)

-- place p of the list holds the first number that is no symbol
pub record FirstAbove (xs : List ℕ) (p : ℕ) : Type 0 where
  pub within : p < length xs
  pub above : 1024 ≤ slice_index xs p
  pub earlier : (k : ℕ) → k < p → Symbol (slice_index xs k)

-- how many symbols a message has
abbrev pub message_length : ℕ
message_length = 514

-- a message is 514 symbols
pub record Message (xs : List ℕ) : Type 0 where
  pub long : length xs ≡ message_length
  pub symbols : Symbols xs
