-- For proofs: the block of four words as one number, computed word by word from the front.
use Rattle.std.specs.Prelude.{ℕ, ◌+◌, ◌*◌, ◌/◌, ◌%◌, ◌^◌, cond, List, [], ◌∷◌, ◌==◌}
use Rattle.words.specs.Types.{high}
use Rattle.words.specs.Raw.{Raw, data_word, control_word, mark, body}

-- bit j is the mark of word j
abbrev pub marks : List Raw → ℕ
marks [] = 0
marks (w ∷ ws) = mark w + 2 * marks ws

-- the bodies, joined in order
abbrev pub whole : List Raw → ℕ
whole [] = 0
whole (w ∷ ws) = body w + 2 ^ 64 * whole ws

-- a body without bits 4 to 7, the high nibble of its type
abbrev pub kept : ℕ → ℕ
kept b = b % 16 + 2 ^ 4 * (b / 256)

-- the bodies, joined in order, without the high nibble of the first control word's type
abbrev pub cut : List Raw → ℕ
cut [] = 0
cut (data_word b ∷ ws) = b + 2 ^ 64 * cut ws
cut (control_word b ∷ ws) = kept b + 2 ^ 60 * whole ws

-- all four data: bit 0 is 1, the bodies from bit 1; else bit 0 is 0, the marks from bit 1, the cut bodies from bit 5
abbrev pub block : List Raw → ℕ
block ws = cond (marks ws == 15) (1 + 2 * whole ws) (0 + 2 * (marks ws + 2 ^ 4 * cut ws))

-- the body of which y is what was kept
abbrev pub restored : ℕ → ℕ
restored y = y % 16 + 2 ^ 4 * high (y % 16) + 2 ^ 8 * (y / 16)
