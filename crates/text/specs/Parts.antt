-- For proofs: the fault of a token at its place, and the two tokens of a line.
use Rattle.std.specs.Prelude.{◌≡◌, ℕ, ◌+◌, List, length, take, drop, Option}
use Rattle.text.specs.Text.{fault}
use Rattle.text.specs.Tokens.{token_columns, token_bytes}
use Rattle.text.specs.declared.refusal.Fault.{Fault}
use Rattle.text.specs.declared.tokens.Part.{Part}

abbrev pub token_fault : Part → Option Fault
token_fault p = fault p.column (token_columns p.token) (token_bytes p.token)

-- the parts are those of the line that the text begins with
pub record IsLine (text : List ℕ) (head body : Part) : Type 0 where
  pub head_place : head.column ≡ 1
  pub head_bytes : token_bytes head.token ≡ take (length (token_columns head.token)) text
  pub body_place : body.column ≡ length (token_columns head.token) + 2
  pub body_bytes : token_bytes body.token ≡ take (length (token_columns body.token)) (drop (length (token_columns head.token) + 1) text)
