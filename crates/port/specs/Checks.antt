-- For proofs: what the parts of a reading do before any total changes.
use Rattle.std.specs.Prelude.{◌≡◌, ℕ, ◌≤◌, List, length, Ok, Err, Result}
use Rattle.symbols.specs.Symbols.{Symbols}
use Rattle.words.specs.Words.{raws}
use Rattle.words.specs.declared.word.Word.{Word}
use Rattle.messages.specs.Messages.{word_count, MessageRead}
use Rattle.messages.specs.Numbers.{message_of}
use Rattle.messages.specs.declared.refusal.MessageRefusal.TheVariants as of_message
use Rattle.code.specs.Distance.{distance}
use Rattle.code.specs.Codes.{Model, Near, Far}
use Rattle.code.specs.declared.refusal.CodeRefusal.TheVariants as of_code
use Rattle.port.specs.Limits.{Room}
use Rattle.port.specs.Calls.{ReadRefused, Unreadable}
use Rattle.port.specs.declared.totals.Totals.{Totals}
use Rattle.port.specs.declared.refusal.PortRefusal.{PortRefusal}
use Rattle.port.specs.declared.refusal.PortRefusal.TheVariants.{Opening, Length, Full, Code, Message}

-- the checks before the line is mended, whichever eighty words are lent
abbrev pub Checked : Model → Totals → List ℕ → Result Unit PortRefusal → Type 0
Checked m a line (Ok u) = (length line ≡ m.n) × Symbols line × Room m.t a
Checked m a line (Err e) = (words : List Word) → length words ≡ word_count → ReadRefused m a line words a e

-- the line, a copy, was mended and its message read
pub record Found (m : Model) (line line' : List ℕ) (words : List Word) (d : ℕ) : Type 0 where
  pub message : List ℕ
  pub near : Near m line message
  pub reads : MessageRead message (Ok words)
  pub again : message_of (raws words) ≡ message
  pub becomes : line' ≡ m.encode message
  pub answer : d ≡ distance line line'
  pub few : d ≤ m.t

-- why nothing was found
abbrev pub NotFound : Model → List ℕ → PortRefusal → Type 0
NotFound m line (Code of_code.NoCodeWord) = Far m line
NotFound m line (Message (of_message.Block b e)) = Unreadable m line (of_message.Block b e)
NotFound m line (Code of_code.Length) = ⊥
NotFound m line (Code (of_code.Symbol p)) = ⊥
NotFound m line (Message (of_message.Symbol p)) = ⊥
NotFound m line Opening = ⊥
NotFound m line Length = ⊥
NotFound m line Full = ⊥

abbrev pub Searched : Model → List ℕ → List Word → List ℕ → List Word → Result ℕ PortRefusal → Type 0
Searched m line words line' words' (Ok d) = Found m line line' words' d
Searched m line words line' words' (Err e) = NotFound m line e × (words' ≡ words)
