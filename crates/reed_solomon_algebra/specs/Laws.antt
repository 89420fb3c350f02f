-- What is proved of the code for every t up to 15.
use Rattle.std.specs.Prelude.{◌≡◌, ℕ, ◌+◌, ◌*◌, ◌≤◌, List, length, replicate, ◌≢◌}
use Rattle.symbols.specs.Symbols.{Symbols, Message}
use Rattle.code.specs.Distance.{distance}
use Rattle.code.specs.Codes.{Lawful}
use Rattle.reed_solomon_algebra.specs.CodeWords.{CodeWord, WordOf, line_length}
use Rattle.reed_solomon_algebra.specs.Division.{Vanishes, encode, reed_solomon_code}

pub record CodeLaws (t : ℕ) : Type 0 where
  -- every message has its code word, and no other list is one that begins so
  pub word : (m : List ℕ) → Message m → WordOf t m (encode t m)
  -- the law of a code: code words of different messages lie at least 2t + 1 apart
  pub lawful : Lawful (reed_solomon_code t)
  -- so do any two code words that differ
  pub distant : (x y : List ℕ) → CodeWord t x → CodeWord t y → (x ≢ y) → 2 * t + 1 ≤ distance x y
  -- and a code word that is not all zeros has at least 2t + 1 symbols that are not 0
  pub heavy : (x : List ℕ) → CodeWord t x → (x ≢ replicate (line_length t) 0) → 2 * t + 1 ≤ distance x (replicate (line_length t) 0)
  -- a line is divisible by the generator exactly when it is zero at the generator's roots
  pub vanishes : (line : List ℕ) → CodeWord t line → Vanishes (2 * t) line
  pub divides : (line : List ℕ) → length line ≡ line_length t → Symbols line → Vanishes (2 * t) line → CodeWord t line

-- each t that a code may have
abbrev pub AllCodeLaws : Type 0
AllCodeLaws = (t : ℕ) → t ≤ 15 → CodeLaws t
