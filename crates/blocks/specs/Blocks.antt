-- Which block four words give, and what a block reads as: every rule by its bit places.
-- A block is a number below 2^257, and bit i of the block is bit i of the number.
use Rattle.std.specs.Prelude.{◌≡◌, ℕ, ◌+◌, ◌*◌, ◌/◌, ◌%◌, ◌^◌, ◌<◌, true, false, List, length, Ok, Err, Result, slice_index_or}
use Rattle.words.specs.Types.{listed}
use Rattle.words.specs.Raw.{Raw, data_word, mark, body, AllValid}
use Rattle.words.specs.Words.{raws}
use Rattle.words.specs.declared.word.Word.{Word}
use Rattle.blocks.specs.declared.refusal.BlockRefusal.{BlockRefusal}
use Rattle.blocks.specs.declared.refusal.BlockRefusal.TheVariants.{NoControl, NoType, Unlisted}

-- the n bits of b from bit `at` on, as a number
abbrev pub field : ℕ → ℕ → ℕ → ℕ
field b at n = b / 2 ^ at % 2 ^ n

abbrev pub bit : ℕ → ℕ → ℕ
bit b at = field b at 1

abbrev pub word : List Raw → ℕ → Raw
word ws j = slice_index_or ws j (data_word 0)

-- Writing

-- word c is the first control word
pub record FirstControl (ws : List Raw) (c : ℕ) : Type 0 where
  pub within : c < length ws
  pub control : mark (word ws c) ≡ 0
  pub earlier : (j : ℕ) → j < c → mark (word ws j) ≡ 1

-- four data words: bit 0 is 1, and body j fills bits 64j + 1 to 64j + 64
pub record DataBlock (ws : List Raw) (b : ℕ) : Type 0 where
  pub first : bit b 0 ≡ 1
  pub bodies : (j : ℕ) → j < 4 → field b (1 + 64 * j) 64 ≡ body (word ws j)

-- c is the first control word: bit 0 is 0, bits 1 to 4 mark the words, and the bodies, joined in order,
-- fill bits 5 to 256 without bits 4 to 7 of body c, the high nibble of its type
pub record MixedBlock (ws : List Raw) (c b : ℕ) : Type 0 where
  pub first : bit b 0 ≡ 0
  pub marked : (j : ℕ) → j < 4 → bit b (1 + j) ≡ mark (word ws j)
  pub before : (j : ℕ) → j < c → field b (5 + 64 * j) 64 ≡ body (word ws j)
  pub low : field b (5 + 64 * c) 4 ≡ body (word ws c) % 16
  pub rest : field b (9 + 64 * c) 56 ≡ body (word ws c) / 256
  pub after : (j : ℕ) → c < j → j < 4 → field b (1 + 64 * j) 64 ≡ body (word ws j)

-- b is the block of the words ws
pub record BlockOf (ws : List Raw) (b : ℕ) : Type 0 where
  pub narrow : b < 2 ^ 257
  pub all_data : ((j : ℕ) → j < 4 → mark (word ws j) ≡ 1) → DataBlock ws b
  pub mixed : (c : ℕ) → FirstControl ws c → MixedBlock ws c b

-- Reading

-- the block has control words, and word c is the first that it marks as one
pub record MarkedFirst (b c : ℕ) : Type 0 where
  pub mixed : bit b 0 ≡ 0
  pub within : c < 4
  pub control : bit b (1 + c) ≡ 0
  pub earlier : (j : ℕ) → j < c → bit b (1 + j) ≡ 1

-- the low nibble that the block keeps of the type of its first control word c
abbrev pub kept_nibble : ℕ → ℕ → ℕ
kept_nibble b c = field b (5 + 64 * c) 4

-- the type of a later control word j
abbrev pub later_type : ℕ → ℕ → ℕ
later_type b j = field b (1 + 64 * j) 8

-- 21: bit 0 is 0, and no word is marked as control
pub record HasNoControl (b : ℕ) : Type 0 where
  pub mixed : bit b 0 ≡ 0
  pub all_marked : (j : ℕ) → j < 4 → bit b (1 + j) ≡ 1

-- 22: the kept nibble of the first control word c is 0
pub record HasNoType (b c : ℕ) : Type 0 where
  pub first : MarkedFirst b c
  pub empty : kept_nibble b c ≡ 0

-- 23: word j is the lowest control word after the first whose type is not listed
pub record HasUnlisted (b j : ℕ) : Type 0 where
  pub c : ℕ
  pub first : MarkedFirst b c
  pub typed : 0 < kept_nibble b c
  pub later : c < j
  pub within : j < 4
  pub control : bit b (1 + j) ≡ 0
  pub unlisted : listed (later_type b j) ≡ false
  pub lowest : (k : ℕ) → c < k → k < j → bit b (1 + k) ≡ 0 → listed (later_type b k) ≡ true

abbrev pub BlockRefused : ℕ → BlockRefusal → Type 0
BlockRefused b NoControl = HasNoControl b
BlockRefused b (NoType c) = HasNoType b c
BlockRefused b (Unlisted j) = HasUnlisted b j

-- what reading the block b answers: the four words whose block it is, or 21 to 23
abbrev pub BlockRead : ℕ → Result (List Word) BlockRefusal → Type 0
BlockRead b (Ok ws) = AllValid (raws ws) × BlockOf (raws ws) b
BlockRead b (Err e) = BlockRefused b e

-- whatever four words have this block, they are what is read
abbrev pub ReadsBack : ℕ → Result (List Word) BlockRefusal → Type 0
ReadsBack b r = (ws : List Word) → length ws ≡ 4 → AllValid (raws ws) → BlockOf (raws ws) b → r ≡ Ok ws
