-- What one call of a port does, by cases of its answer; m is the model of the port's code, a its totals.
use Rattle.std.specs.Prelude.{◌≡◌, ℕ, ◌+◌, List, length, Ok, Err, Result}
use Rattle.symbols.specs.Symbols.{Symbols, FirstAbove}
use Rattle.words.specs.Raw.{AllValid}
use Rattle.words.specs.Words.{raws}
use Rattle.words.specs.declared.word.Word.{Word}
use Rattle.messages.specs.Messages.{word_count, MessageOf, MessageRead}
use Rattle.messages.specs.Numbers.{message_of}
use Rattle.messages.specs.declared.refusal.MessageRefusal.{MessageRefusal}
use Rattle.messages.specs.declared.refusal.MessageRefusal.TheVariants as of_message
use Rattle.code.specs.Distance.{distance}
use Rattle.code.specs.Codes.{Model, Near, Far}
use Rattle.code.specs.declared.refusal.CodeRefusal.TheVariants as of_code
use Rattle.port.specs.Limits.{Room}
use Rattle.port.specs.declared.totals.Totals.{Totals}
use Rattle.port.specs.declared.refusal.PortRefusal.{PortRefusal}
use Rattle.port.specs.declared.refusal.PortRefusal.TheVariants.{Opening, Length, Full, Code, Message}

-- eighty words, and a line of the code's length
pub record Sized (m : Model) (words : List Word) (line : List ℕ) : Type 0 where
  pub words_long : length words ≡ word_count
  pub line_long : length line ≡ m.n

-- the line that a write gives for the words: the code word of their message
abbrev pub line_of : Model → List Word → List ℕ
line_of m words = m.encode (message_of (raws words))

-- Writing took line to line'

pub record WrittenOk (m : Model) (words : List Word) (line line' : List ℕ) : Type 0 where
  pub sized : Sized m words line
  pub valid : AllValid (raws words)
  pub message : MessageOf (raws words) (message_of (raws words))
  pub becomes : line' ≡ line_of m words

-- 42 is the only refusal of a write
abbrev pub WriteRefused : Model → List Word → List ℕ → PortRefusal → Type 0
WriteRefused m words line Length = Sized m words line → ⊥
WriteRefused m words line Opening = ⊥
WriteRefused m words line Full = ⊥
WriteRefused m words line (Code e) = ⊥
WriteRefused m words line (Message e) = ⊥

abbrev pub Written : Model → List Word → List ℕ → List ℕ → Result Unit PortRefusal → Type 0
Written m words line line' (Ok u) = WrittenOk m words line line'
Written m words line line' (Err e) = WriteRefused m words line e × (line' ≡ line)

-- Reading took line, words and the totals a to line', words' and a'

abbrev pub one_accepted : Totals → ℕ → Totals
one_accepted a d = record { accepted = a.accepted + 1; dropped = a.dropped; mended = a.mended + d }

abbrev pub one_dropped : Totals → Totals
one_dropped a = record { accepted = a.accepted; dropped = a.dropped + 1; mended = a.mended }

-- what stands before each reading that is counted
pub record Ready (m : Model) (a : Totals) (line : List ℕ) (words : List Word) : Type 0 where
  pub sized : Sized m words line
  pub symbols : Symbols line
  pub room : Room m.t a

pub record ReadOk (m : Model) (a : Totals) (line : List ℕ) (words : List Word) (line' : List ℕ) (words' : List Word) (a' : Totals) : Type 0 where
  pub ready : Ready m a line words
  pub message : List ℕ
  pub near : Near m line message
  pub reads : MessageRead message (Ok words')
  pub again : message_of (raws words') ≡ message
  pub becomes : line' ≡ m.encode message
  pub counts : a' ≡ one_accepted a (distance line line')

-- a code word is near, and its message is refused
pub record Unreadable (m : Model) (line : List ℕ) (e : MessageRefusal) : Type 0 where
  pub message : List ℕ
  pub near : Near m line message
  pub refused : MessageRead message (Err e)

abbrev pub ReadRefused : Model → Totals → List ℕ → List Word → Totals → PortRefusal → Type 0
-- 42
ReadRefused m a line words a' Length = (Sized m words line → ⊥) × (a' ≡ a)
-- 32
ReadRefused m a line words a' (Code (of_code.Symbol p)) = Sized m words line × FirstAbove line p × (a' ≡ a)
-- 43
ReadRefused m a line words a' Full = Sized m words line × Symbols line × (Room m.t a → ⊥) × (a' ≡ a)
-- 33
ReadRefused m a line words a' (Code of_code.NoCodeWord) = Ready m a line words × Far m line × (a' ≡ one_dropped a)
-- 21 to 23, with the block
ReadRefused m a line words a' (Message (of_message.Block b e)) = Ready m a line words × Unreadable m line (of_message.Block b e) × (a' ≡ one_dropped a)
-- no other
ReadRefused m a line words a' (Code of_code.Length) = ⊥
ReadRefused m a line words a' (Message (of_message.Symbol p)) = ⊥
ReadRefused m a line words a' Opening = ⊥

abbrev pub Reads : Model → Totals → List ℕ → List Word → List ℕ → List Word → Totals → Result Unit PortRefusal → Type 0
Reads m a line words line' words' a' (Ok u) = ReadOk m a line words line' words' a'
Reads m a line words line' words' a' (Err e) = ReadRefused m a line words a' e × (line' ≡ line) × (words' ≡ words)
