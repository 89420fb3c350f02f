-- The message of eighty words, and what 514 numbers read as.
use Rattle.std.specs.Prelude.{◌≡◌, ℕ, ◌+◌, ◌*◌, ◌<◌, List, length, take, drop, Ok, Err, Result, slice_index}
use Rattle.symbols.specs.Symbols.{Symbols, FirstAbove, Message, message_length}
use Rattle.words.specs.Raw.{Raw, AllValid}
use Rattle.words.specs.Words.{raws}
use Rattle.words.specs.declared.word.Word.{Word}
use Rattle.blocks.specs.Packed.{packed}
use Rattle.blocks.specs.Blocks.{field, bit, BlockOf, BlockRefused}
use Rattle.blocks.specs.declared.refusal.BlockRefusal.{BlockRefusal}
use Rattle.messages.specs.declared.refusal.MessageRefusal.{MessageRefusal}
use Rattle.messages.specs.declared.refusal.MessageRefusal.TheVariants.{Symbol, Block}

-- how many blocks a message has, and how many words these code
abbrev pub block_count : ℕ
block_count = 20

abbrev pub word_count : ℕ
word_count = 80

-- the symbols as one number, whose bits are the message bits
abbrev pub message_bits : List ℕ → ℕ
message_bits xs = packed 10 xs

-- block b is message bits 257b to 257b + 256
abbrev pub block_at : List ℕ → ℕ → ℕ
block_at xs b = field (message_bits xs) (257 * b) 257

-- group b is words 4b to 4b + 3
abbrev pub group : List Raw → ℕ → List Raw
group ws b = take 4 (drop (4 * b) ws)

-- xs is the message of the words ws
pub record MessageOf (ws : List Raw) (xs : List ℕ) : Type 0 where
  pub message : Message xs
  pub symbol_bits : (s r : ℕ) → s < message_length → r < 10 → bit (message_bits xs) (10 * s + r) ≡ bit (slice_index xs s) r
  pub blocks : (b : ℕ) → b < block_count → BlockOf (group ws b) (block_at xs b)

-- some four valid words have this block
abbrev pub Readable : ℕ → Type 0
Readable x = (ws : List Raw) × (length ws ≡ 4) × AllValid ws × BlockOf ws x

-- block b is the first that has no words, and e says why
pub record FirstRefused (xs : List ℕ) (b : ℕ) (e : BlockRefusal) : Type 0 where
  pub symbols : Symbols xs
  pub within : b < block_count
  pub refused : BlockRefused (block_at xs b) e
  pub earlier : (k : ℕ) → k < b → Readable (block_at xs k)

abbrev pub MessageRefused : List ℕ → MessageRefusal → Type 0
MessageRefused xs (Symbol p) = FirstAbove xs p
MessageRefused xs (Block b e) = FirstRefused xs b e

-- what reading 514 numbers answers: the eighty words whose message they are, 32, or 21 to 23 with the block
abbrev pub MessageRead : List ℕ → Result (List Word) MessageRefusal → Type 0
MessageRead xs (Ok ws) = AllValid (raws ws) × MessageOf (raws ws) xs
MessageRead xs (Err e) = MessageRefused xs e

-- whatever eighty words have this message, they are what is read
abbrev pub ReadsBack : List ℕ → Result (List Word) MessageRefusal → Type 0
ReadsBack xs r = (ws : List Word) → length ws ≡ word_count → AllValid (raws ws) → MessageOf (raws ws) xs → r ≡ Ok ws
