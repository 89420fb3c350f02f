-- THE PROMISE OF THE PORT, whole: what holds of every write, of every reading and of every run of calls, over every code.
use Rattle.std.specs.Prelude.{◌≡◌, ℕ, ◌+◌, ◌*◌, ◌<◌, ◌≤◌, Bool, true, cond, List, [], ◌∷◌, length, Ok, Err, Result, ◌≢◌}
use Rattle.symbols.specs.Symbols.{Message}
use Rattle.words.specs.Types.{any_of}
use Rattle.words.specs.Raw.{AllValid}
use Rattle.words.specs.Words.{raws}
use Rattle.words.specs.declared.word.Word.{Word}
use Rattle.messages.specs.Messages.{word_count, MessageRead}
use Rattle.messages.specs.declared.refusal.MessageRefusal.{MessageRefusal}
use Rattle.code.specs.Distance.{distance}
use Rattle.code.specs.Codes.{Model, Near, Far}
use Rattle.code.specs.declared.refusal.CodeRefusal.TheVariants.{NoCodeWord}
use Rattle.port.specs.Refusals.{number}
use Rattle.port.specs.Calls.{line_of, Written, Reads}
use Rattle.port.specs.Runs.{Event, write, read, ask, Reached}
use Rattle.port.specs.declared.totals.Totals.{Totals}
use Rattle.port.specs.declared.refusal.PortRefusal.{PortRefusal}
use Rattle.port.specs.declared.refusal.PortRefusal.TheVariants.{Code, Message as Unread}

abbrev pub Answer : Type 0
Answer = Result Unit PortRefusal

-- a reading that is refused is dropped with 33 and with 21 to 23; with 42, 32 or 43 it is not counted at all
abbrev pub is_dropped : PortRefusal → Bool
is_dropped e = any_of (33 ∷ 21 ∷ 22 ∷ 23 ∷ []) (number e)

-- the reading was accepted or dropped
abbrev pub Judged : Answer → Type 0
Judged (Ok u) = Unit {0}
Judged (Err e) = is_dropped e ≡ true

-- eighty valid words
pub record Eighty (words : List Word) : Type 0 where
  pub count : length words ≡ word_count
  pub valid : AllValid (raws words)

-- a code word is answered as what its message x reads to: the words, the line being the code word, or the first bad block's refusal
abbrev pub Answered : Model → List ℕ → List ℕ → List Word → Answer → Type 0
Answered m x line' words' (Ok u) = (line' ≡ m.encode x) × MessageRead x (Ok words')
Answered m x line' words' (Err e) = (f : MessageRefusal) × (e ≡ Unread f) × MessageRead x (Err f)

-- what one reading adds to each total

abbrev pub accepts : Answer → ℕ
accepts (Ok u) = 1
accepts (Err e) = 0

abbrev pub drops : Answer → ℕ
drops (Ok u) = 0
drops (Err e) = cond (is_dropped e) 1 0

-- the distance from the line that arrived to the line that a write gives for the words handed out
abbrev pub mends : Model → List ℕ → List Word → Answer → ℕ
mends m line words' (Ok u) = distance line (line_of m words')
mends m line words' (Err e) = 0

-- what a run of calls adds, the last one first

abbrev pub accepted : List Event → ℕ
accepted [] = 0
accepted (write words line line' r ∷ h) = accepted h
accepted (read line words line' words' r ∷ h) = accepts r + accepted h
accepted (ask a ∷ h) = accepted h

abbrev pub dropped : List Event → ℕ
dropped [] = 0
dropped (write words line line' r ∷ h) = dropped h
dropped (read line words line' words' r ∷ h) = drops r + dropped h
dropped (ask a ∷ h) = dropped h

abbrev pub mended : Model → List Event → ℕ
mended m [] = 0
mended m (write words line line' r ∷ h) = mended m h
mended m (read line words line' words' r ∷ h) = mends m line words' r + mended m h
mended m (ask a ∷ h) = mended m h

pub record Counts (m : Model) (opening : Totals) (h : List Event) (a : Totals) : Type 0 where
  pub accepts : a.accepted ≡ opening.accepted + accepted h
  pub drops : a.dropped ≡ opening.dropped + dropped h
  pub mends : a.mended ≡ opening.mended + mended m h

pub record Promise (m : Model) : Type 0 where
  pub valid_words_are_never_refused : (words : List Word) (line line' : List ℕ) (r : Answer)
      → Eighty words → length line ≡ m.n → Written m words line line' r → (r ≡ Ok tt) × (line' ≡ line_of m words)
  pub different_words_give_distant_lines : (v w : List Word)
      → Eighty v → Eighty w → (v ≢ w) → 2 * m.t + 1 ≤ distance (line_of m v) (line_of m w)
  pub refused_33_exactly_when_no_code_word_is_near : (a a' : Totals) (line line' : List ℕ) (words words' : List Word) (r : Answer)
      → Reads m a line words line' words' a' r → Judged r → (r ≡ Err (Code NoCodeWord) → Far m line) × (Far m line → r ≡ Err (Code NoCodeWord))
  pub otherwise_the_near_code_word_is_answered : (a a' : Totals) (line line' x : List ℕ) (words words' : List Word) (r : Answer)
      → Reads m a line words line' words' a' r → Judged r → Near m line x → Answered m x line' words' r
  pub every_other_code_word_is_out_of_reach : (line x y : List ℕ)
      → length line ≡ m.n → Near m line x → Message y → (y ≢ x) → m.t < distance line (m.encode y)
  pub totals_count_every_reading : (opening a : Totals) (h : List Event)
      → Reached m opening h a → Counts m opening h a

-- a question answers r where the totals are a: whatever run led there, r is what the run adds up to
abbrev pub TotalsTrue : Model → Totals → Totals → Type 0
TotalsTrue m a r = (opening : Totals) (h : List Event) → Reached m opening h a → Counts m opening h r
