-- For proofs: the columns of each token and of a line of two, and the answer of a line.
use Rattle.std.specs.Prelude.{ℕ, ◌+◌, ◌<◌, ◌≤◌, Bool, cond, List, [], ◌∷◌, ◌++◌, map, length, replicate, Some, None, Ok, Err, codes, Option, Result}
use Rattle.text.specs.Text.{Column, just, letter, digit}
use Rattle.text.specs.declared.refusal.Fault.{Fault}
use Rattle.text.specs.declared.refusal.Fault.TheVariants.{Ended, At}
use Rattle.text.specs.declared.refusal.TextRefusal.{TextRefusal}
use Rattle.text.specs.declared.refusal.TextRefusal.TheVariants.{Names, Row}
use Rattle.text.specs.declared.tokens.Name.{Name}
use Rattle.text.specs.declared.tokens.Name.TheVariants as due
use Rattle.text.specs.declared.tokens.Token.{Token}
use Rattle.text.specs.declared.tokens.Token.TheVariants as token

abbrev pub spelled : Name → List ℕ
spelled due.Head = codes "head"
spelled due.Body = codes "body"

abbrev pub token_columns : Token → List Column
token_columns (token.Name n bytes) = map just (spelled n)
token_columns (token.Head bytes) = letter ∷ []
token_columns (token.Body bytes) = replicate 16 digit

abbrev pub token_bytes : Token → List ℕ
token_bytes (token.Name n bytes) = bytes.now
token_bytes (token.Head bytes) = bytes.now
token_bytes (token.Body bytes) = bytes.now

-- a token has no more bytes than a body has, and stands at column c of a line
pub record Within (t : Token) (c : ℕ) : Type 0 where
  pub few : length (token_bytes t) ≤ 16
  pub from_1 : 1 ≤ c
  pub low : c < 50

-- the fault of bytes from column c on: the first wrong one, or else the end where they are too few
abbrev pub fault_at : ℕ → Bool → Option ℕ → Option Fault
fault_at c few (Some i) = Some (At (c + i))
fault_at c few None = cond few (Some Ended) None

-- two tokens, a space behind the first and a byte 10 behind the second
abbrev pub line_columns : Token → Token → List Column
line_columns head body = token_columns head ++ (just 32 ∷ (token_columns body ++ (just 10 ∷ [])))

-- the refusal of the names, or of a row
abbrev pub refusal_at : Option ℕ → Fault → TextRefusal
refusal_at None f = Names f
refusal_at (Some r) f = Row r f

abbrev pub line_answer : Option ℕ → Option Fault → Result (Unit {0}) TextRefusal
line_answer row None = Ok tt
line_answer row (Some f) = Err (refusal_at row f)
