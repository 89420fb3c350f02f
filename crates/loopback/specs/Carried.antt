-- What comes of eighty words that are carried through a port over a code, and of any line near theirs.
use Rattle.std.specs.Prelude.{◌≡◌, ℕ, ◌≤◌, List, length, Ok}
use Rattle.words.specs.declared.word.Word.{Word}
use Rattle.messages.specs.Messages.{word_count}
use Rattle.code.specs.Distance.{distance}
use Rattle.code.specs.Codes.{Model}
use Rattle.port.specs.Calls.{Ready, Reads, line_of, one_accepted}
use Rattle.port.specs.Promise.{Answer, Eighty}
use Rattle.port.specs.declared.totals.Totals.{Totals}

-- the totals after one reading that was accepted with seven symbols mended
abbrev pub one_with_seven : Totals
one_with_seven = record { accepted = 1; dropped = 0; mended = 7 }

-- a code that mends seven symbols brings the words back, and its totals are 1 0 7
pub record CarriedHome (m : Model) (words words' : List Word) (a : Totals) : Type 0 where
  pub same : 7 ≤ m.t → words' ≡ words
  pub counted : 7 ≤ m.t → a ≡ one_with_seven

-- A reading that is ready, of a line within t of the line of eighty valid words, is accepted with just these words; the
-- line becomes theirs, and the totals count it with its distance.
pub record ReadHome (m : Model) (a : Totals) (line : List ℕ) (words : List Word) (line' : List ℕ) (words' : List Word) (a' : Totals) (r : Answer) : Type 0 where
  pub accepted : r ≡ Ok tt
  pub same : words' ≡ words
  pub becomes : line' ≡ line_of m words
  pub counts : a' ≡ one_accepted a (distance line (line_of m words))

abbrev pub NearLinesReadHome : Model → Type 0
NearLinesReadHome m = (a a' : Totals) (line line' : List ℕ) (words given words' : List Word) (r : Answer)
    → Eighty words → distance line (line_of m words) ≤ m.t → Ready m a line given → length words' ≡ word_count
    → Reads m a line given line' words' a' r → ReadHome m a line words line' words' a' r
