-- The worked cases of the formats, one list: what the definitions that the contracts cite say on thirteen examples.
use Rattle.std.specs.Prelude.{◌≡◌, List, [], ◌∷◌, ℕ, ◌+◌, ◌^◌, length, replicate}
use Rattle.words.specs.Raw.{Raw, data_word, control_word, AllValid}
use Rattle.blocks.specs.Blocks.{BlockOf, BlockRefused}
use Rattle.blocks.specs.Refusals.{number, place}
use Rattle.blocks.specs.declared.refusal.BlockRefusal.{BlockRefusal}
use Rattle.code.specs.Layers.{keys}
use Rattle.field.specs.Field.{mul, inv}
use Rattle.reed_solomon_algebra.specs.CodeWords.{WordOf}
use Rattle.reed_solomon_algebra.specs.Division.{encode}
use Rattle.training.specs.Numbers.{mark_number}
use Rattle.training.specs.declared.records.Mark.{Mark}
use Rattle.training.specs.declared.records.Mark.TheVariants.{Gfc16, Gfc32}
use Rattle.signal.specs.Signal.{cells, highest_first, pattern}

-- What a case can say

pub data Case : Type 0 where
  -- these four words have the block whose bits at these places are 1
  block_has_bits : List Raw → List ℕ → Case
  -- the block whose bits at these places are 1 is refused with this number, at this word
  block_refused : List ℕ → ℕ → ℕ → Case
  -- the first element times the second is the third
  product_is : ℕ → ℕ → ℕ → Case
  -- the inverse of the first element is the second
  inverse_is : ℕ → ℕ → Case
  -- scrambling adds these to the first symbols of a line
  key_begins : List ℕ → Case
  -- under RS(528,514) this message has this code word
  code_word_is : List ℕ → List ℕ → Case
  -- a control field with this mark begins with these TUI
  mark_sent_as : Mark → List ℕ → Case
  -- the pattern of this seed begins with these bits
  pattern_begins : ℕ → List ℕ → Case

-- the number whose bits at these places are 1 and whose others are 0
abbrev pub with_bits : List ℕ → ℕ
with_bits [] = 0
with_bits (p ∷ ps) = 2 ^ p + with_bits ps

-- four valid words whose block is b, and no other number is their block
pub record OnlyBlock (ws : List Raw) (b : ℕ) : Type 0 where
  pub four : length ws ≡ 4
  pub valid : AllValid ws
  pub is : BlockOf ws b
  pub only : (other : ℕ) → BlockOf ws other → other ≡ b

-- the block b is refused with number n at word w
pub record RefusedWith (b n w : ℕ) : Type 0 where
  pub refusal : BlockRefusal
  pub refused : BlockRefused b refusal
  pub numbered : number refusal ≡ n
  pub placed : place refusal ≡ w

abbrev pub Holds : Case → Type 0
Holds (block_has_bits ws places) = OnlyBlock ws (with_bits places)
Holds (block_refused places n w) = RefusedWith (with_bits places) n w
Holds (product_is a b p) = mul a b ≡ p
Holds (inverse_is a i) = inv a ≡ i
Holds (key_begins symbols) = keys (length symbols) ≡ symbols
Holds (code_word_is message line) = WordOf 7 message line × (encode 7 message ≡ line)
-- two cells, after the marker's last zero
Holds (mark_sent_as mark tui) = cells 0 (highest_first 2 (mark_number mark)) ≡ tui
Holds (pattern_begins seed bits) = pattern seed (length bits) ≡ bits

abbrev pub AllHold : List Case → Type 0
AllHold [] = Unit {0}
AllHold (c ∷ cs) = Holds c × AllHold cs

-- The cases

abbrev zero_word : Raw
zero_word = data_word 0

abbrev pub data_words_set_bit_0_alone : Case
data_words_set_bit_0_alone = block_has_bits (zero_word ∷ zero_word ∷ zero_word ∷ zero_word ∷ []) (0 ∷ [])

abbrev pub first_word_control_keeps_its_low_nibble : Case
first_word_control_keeps_its_low_nibble = block_has_bits (control_word 0x1E ∷ zero_word ∷ zero_word ∷ zero_word ∷ []) (2 ∷ 3 ∷ 4 ∷ 6 ∷ 7 ∷ 8 ∷ [])

abbrev pub nibble_is_cut_in_the_first_control_word : Case
nibble_is_cut_in_the_first_control_word = block_has_bits (zero_word ∷ control_word 0x78 ∷ zero_word ∷ zero_word ∷ []) (1 ∷ 3 ∷ 4 ∷ 72 ∷ [])

abbrev pub four_data_marks_without_bit_0_refused : Case
four_data_marks_without_bit_0_refused = block_refused (1 ∷ 2 ∷ 3 ∷ 4 ∷ []) 21 0

abbrev pub no_bit_at_all_has_no_type : Case
no_bit_at_all_has_no_type = block_refused [] 22 0

abbrev pub second_control_word_unlisted : Case
second_control_word_unlisted = block_refused (3 ∷ 4 ∷ 6 ∷ 7 ∷ 8 ∷ []) 23 1

abbrev pub product_goes_around_the_modulus : Case
product_goes_around_the_modulus = product_is 2 512 9

abbrev pub inverse_of_alpha : Case
inverse_of_alpha = inverse_is 2 516

abbrev pub scrambling_starts_with_ones : Case
scrambling_starts_with_ones = key_begins (1023 ∷ 1023 ∷ 1023 ∷ 1023 ∷ 682 ∷ 170 ∷ 0 ∷ [])

abbrev pub zeros_are_a_code_word : Case
zeros_are_a_code_word = code_word_is (replicate 514 0) (replicate 528 0)

abbrev pub mark_of_32GFC_has_two_ones : Case
mark_of_32GFC_has_two_ones = mark_sent_as Gfc32 (1 ∷ 1 ∷ 1 ∷ 1 ∷ 0 ∷ 0 ∷ 0 ∷ 0 ∷ 1 ∷ 1 ∷ 1 ∷ 1 ∷ 0 ∷ 0 ∷ 0 ∷ 0 ∷ [])

abbrev pub mark_of_16GFC_has_two_zeros : Case
mark_of_16GFC_has_two_zeros = mark_sent_as Gfc16 (1 ∷ 1 ∷ 1 ∷ 1 ∷ 1 ∷ 1 ∷ 1 ∷ 1 ∷ 0 ∷ 0 ∷ 0 ∷ 0 ∷ 0 ∷ 0 ∷ 0 ∷ 0 ∷ [])

abbrev pub pattern_of_seed_1_repeats_after_eleven : Case
pattern_of_seed_1_repeats_after_eleven = pattern_begins 1 (1 ∷ 0 ∷ 0 ∷ 0 ∷ 0 ∷ 0 ∷ 0 ∷ 0 ∷ 0 ∷ 0 ∷ 0 ∷ 1 ∷ [])

abbrev pub cases : List Case
cases =
    data_words_set_bit_0_alone
    ∷ first_word_control_keeps_its_low_nibble
    ∷ nibble_is_cut_in_the_first_control_word
    ∷ four_data_marks_without_bit_0_refused
    ∷ no_bit_at_all_has_no_type
    ∷ second_control_word_unlisted
    ∷ product_goes_around_the_modulus
    ∷ inverse_of_alpha
    ∷ scrambling_starts_with_ones
    ∷ zeros_are_a_code_word
    ∷ mark_of_32GFC_has_two_ones
    ∷ mark_of_16GFC_has_two_zeros
    ∷ pattern_of_seed_1_repeats_after_eleven
    ∷ []
