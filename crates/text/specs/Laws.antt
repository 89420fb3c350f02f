-- The text of given words, and what is proved above the definition of the answer.
use Rattle.std.specs.Prelude.{◌≡◌, ℕ, zero, suc, ◌+◌, ◌/◌, ◌%◌, ◌^◌, cond, List, [], ◌∷◌, ◌++◌, length, take, Ok, codes, nat_lt}
use Rattle.words.specs.Raw.{Raw, data_word, control_word, body, AllValid}
use Rattle.text.specs.Text.{answer}

-- the byte of a hexadecimal digit
abbrev pub digit_byte : ℕ → ℕ
digit_byte d = cond (nat_lt d 10) (48 + d) (87 + d)

-- the n lowest digits of a number, the highest first
unfoldable pub hex : ℕ → ℕ → List ℕ
hex zero x = []
hex (suc n) x = digit_byte (x / 16 ^ n % 16) ∷ hex n x

abbrev pub letter_of : Raw → ℕ
letter_of (data_word b) = 100
letter_of (control_word b) = 99

abbrev pub row_of : Raw → List ℕ
row_of w = letter_of w ∷ 32 ∷ (hex 16 (body w) ++ (10 ∷ []))

abbrev pub rows_of : List Raw → List ℕ
rows_of [] = []
rows_of (w ∷ ws) = row_of w ++ rows_of ws

-- the text that says just these words
abbrev pub text_of : List Raw → List ℕ
text_of ws = (codes "head body" ++ (10 ∷ [])) ++ rows_of ws

-- reading and printing are inverse: a text is accepted with the words ws exactly when these are eighty valid words and it is their text
pub record Inverse : Type 0 where
  pub accepted_is_printed : (bs : List ℕ) (ws : List Raw) → answer bs ≡ Ok ws → (length ws ≡ 80) × AllValid ws × (text_of ws ≡ bs)
  pub printed_is_accepted : (ws : List Raw) → length ws ≡ 80 → AllValid ws → answer (text_of ws) ≡ Ok ws

-- how many bytes an answer depends on: one more than a right text has
abbrev pub enough : ℕ
enough = 1531

-- no answer depends on more than the first bytes
abbrev pub Early : Type 0
Early = (bs : List ℕ) → answer (take enough bs) ≡ answer bs
