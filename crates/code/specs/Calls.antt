-- What the calls of a code do, by cases of the answer; a refusal's case comes with its number.
use Rattle.std.specs.Prelude.{◌≡◌, ℕ, ◌≤◌, List, length, Ok, Err, Result}
use Rattle.symbols.specs.Symbols.{Symbols, FirstAbove, Message, message_length}
use Rattle.code.specs.Distance.{distance}
use Rattle.code.specs.Codes.{Model, Near, Far}
use Rattle.code.specs.declared.refusal.CodeRefusal.{CodeRefusal}
use Rattle.code.specs.declared.refusal.CodeRefusal.TheVariants.{Length, Symbol, NoCodeWord}

-- the lengths that both calls ask for, where a line has n symbols
pub record Sized (n : ℕ) (message line : List ℕ) : Type 0 where
  pub message_long : length message ≡ message_length
  pub line_long : length line ≡ n

-- the two lengths were looked at
abbrev pub LengthsChecked : ℕ → List ℕ → List ℕ → Result Unit CodeRefusal → Type 0
LengthsChecked n message line (Ok u) = Sized n message line
LengthsChecked n message line (Err e) = (e ≡ Length) × (Sized n message line → ⊥)

-- a list was looked through for a number that is no symbol
abbrev pub SymbolsChecked : List ℕ → Result Unit CodeRefusal → Type 0
SymbolsChecked xs (Ok u) = Symbols xs
SymbolsChecked xs (Err e) = (place : ℕ) × (e ≡ Symbol place) × FirstAbove xs place

-- the line became the code word of the message
pub record FormedOk (m : Model) (message line line' : List ℕ) : Type 0 where
  pub sized : Sized m.n message line
  pub symbols : Symbols message
  pub becomes : line' ≡ m.encode message

abbrev pub FormRefused : Model → List ℕ → List ℕ → CodeRefusal → Type 0
-- 31
FormRefused m message line Length = Sized m.n message line → ⊥
-- 32, at the first number that is no symbol
FormRefused m message line (Symbol place) = Sized m.n message line × FirstAbove message place
-- 33 never
FormRefused m message line NoCodeWord = ⊥

-- forming the message's code word took line to line' and answered so
abbrev pub Formed : Model → List ℕ → List ℕ → List ℕ → Result Unit CodeRefusal → Type 0
Formed m message line line' (Ok u) = FormedOk m message line line'
Formed m message line line' (Err e) = FormRefused m message line e × (line' ≡ line)

-- the line became the code word of the message' that was given, and it had d wrong symbols, at most t
pub record MendedOk (m : Model) (line message line' message' : List ℕ) (d : ℕ) : Type 0 where
  pub sized : Sized m.n message line
  pub symbols : Symbols line
  pub is_message : Message message'
  pub becomes : line' ≡ m.encode message'
  pub answer : d ≡ distance line line'
  pub near : d ≤ m.t

abbrev pub MendRefused : Model → List ℕ → List ℕ → CodeRefusal → Type 0
-- 31
MendRefused m line message Length = Sized m.n message line → ⊥
-- 32, at the first number that is no symbol
MendRefused m line message (Symbol place) = Sized m.n message line × FirstAbove line place
-- 33: the line can be read, and no code word is within t
MendRefused m line message NoCodeWord = Sized m.n message line × Symbols line × Far m line

-- mending took line to line' and the message place to message' and answered so
abbrev pub Mended : Model → List ℕ → List ℕ → List ℕ → List ℕ → Result ℕ CodeRefusal → Type 0
Mended m line message line' message' (Ok d) = MendedOk m line message line' message' d
Mended m line message line' message' (Err e) = MendRefused m line message e × (line' ≡ line) × (message' ≡ message)

-- what the law of a code adds to a mending
pub record Sure (m : Model) (line message line' message' : List ℕ) (r : Result ℕ CodeRefusal) : Type 0 where
  -- no other outcome is a mending of this line
  pub only : (l x : List ℕ) (q : Result ℕ CodeRefusal) → Mended m line message l x q → (l ≡ line') × (x ≡ message') × (q ≡ r)
  -- the message of a code word within t, whichever was sent, is given back
  pub back : Sized m.n message line → Symbols line → (x : List ℕ) → Near m line x → (message' ≡ x) × (line' ≡ m.encode x) × (r ≡ Ok (distance line line'))
