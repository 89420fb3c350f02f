-- A word as the rules see it, a kind and a body, and which of these are valid.
use Rattle.std.specs.Prelude.{◌≡◌, ℕ, ◌%◌, ◌^◌, ◌<◌, true, List, [], ◌∷◌}
use Rattle.words.specs.Types.{listed}

-- a raw word is a body under header 2, a data word, or under header 1, a control word; it need not be valid
pub data Raw : Type 0 where
  data_word : ℕ → Raw
  control_word : ℕ → Raw

abbrev pub header : Raw → ℕ
header (data_word b) = 2
header (control_word b) = 1

abbrev pub body : Raw → ℕ
body (data_word b) = b
body (control_word b) = b

-- how a block marks the word: 1 for data, 0 for control
abbrev pub mark : Raw → ℕ
mark (data_word b) = 1
mark (control_word b) = 0

-- the type of a control word is the low byte of its body
abbrev pub type_of : ℕ → ℕ
type_of b = b % 256

abbrev pub Valid : Raw → Type 0
Valid (data_word b) = b < 2 ^ 64
Valid (control_word b) = (b < 2 ^ 64) × (listed (type_of b) ≡ true)

abbrev pub AllValid : List Raw → Type 0
AllValid [] = Unit {0}
AllValid (w ∷ ws) = Valid w × AllValid ws
