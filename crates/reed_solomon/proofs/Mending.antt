-- A repaired line and the front of it are a code word and its message.
use Rattle.std.proofs.Common.{◌≡◌, ℕ, ◌+◌, ◌*◌, ◌≤◌, List, Option, None, Some, Result, MatchOption, take, sym, subst, arith, length-take-le}
use Rattle.std.specs.Option.{ok_or}
use Rattle.symbols.specs.Symbols.{Symbols, Message}
use Rattle.code.specs.Calls.{Sized, Mended}
use Rattle.code.specs.declared.refusal.CodeRefusal.{CodeRefusal}
use Rattle.code.specs.declared.refusal.CodeRefusal.TheVariants.{NoCodeWord}
use Rattle.code.specs.Codes.{Far}
use Rattle.reed_solomon_algebra.specs.CodeWords.{CodeWord}
use Rattle.reed_solomon_algebra.specs.Division.{encode, reed_solomon_code}
use Rattle.reed_solomon_algebra.proofs.Encodes.{encode_word, encode_only}
use Rattle.reed_solomon.specs.Repaired.{Hopeless, RepairedTo}
use Rattle.reed_solomon.proofs.Rests.{take_symbols}

module _ (t : ℕ) (small : t ≤ 15) where
  pub front_message : (line m : List ℕ) → CodeWord t line → m ≡ take 514 line → Message m
  front_message line m w e =
      subst Message (sym e)
      (record { long = length-take-le 514 line (omega (arith, w.long)); symbols = take_symbols 514 line w.symbols })

  pub front_word : (line m : List ℕ) → CodeWord t line → m ≡ take 514 line → line ≡ encode t m
  front_word line m w e = encode_only t small m line (front_message line m w e) w (sym e)

  pub hopeless_far : (line : List ℕ) → Hopeless t line → Far (reed_solomon_code t) line
  hopeless_far line none x near = none (encode t x) (encode_word t small x near.is_message) near.within

  -- what reading a line does is what mending it means
  pub mended : (line message line' message' : List ℕ) (r : Option ℕ) (q : Result ℕ CodeRefusal) → Sized (514 + 2 * t) message line → Symbols line
      → MatchOption r (Hopeless t line × (line' ≡ line) × (message' ≡ message)) (λ d. RepairedTo t line line' d × (message' ≡ take 514 line'))
      → q ≡ ok_or r NoCodeWord
      → Mended (reed_solomon_code t) line message line' message' q
  mended line message line' message' None q sized symbols (hopeless, same_line, same_message) is =
      subst (Mended (reed_solomon_code t) line message line' message') (sym is)
      ((sized, symbols, hopeless_far line hopeless), same_line, same_message)
  mended line message line' message' (Some d) q sized symbols (repaired, copied) is =
      subst (Mended (reed_solomon_code t) line message line' message') (sym is)
      (record {
        sized = sized;
        symbols = symbols;
        is_message = front_message line' message' repaired.word copied;
        becomes = front_word line' message' repaired.word copied;
        answer = repaired.answer;
        near = repaired.near;
      })
