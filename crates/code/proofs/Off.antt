-- What turning the correction off rests on.
use Rattle.std.proofs.Common.{◌≡◌, ℕ, ◌<◌, ◌≤◌, List, length, sym, ap, ◌∙◌, subst, arith}
use Rattle.symbols.specs.Symbols.{Symbols, Message, message_length}
use Rattle.code.specs.Distance.{distance}
use Rattle.code.specs.Codes.{Model, Lawful, Far}
use Rattle.code.specs.Calls.{MendedOk}
use Rattle.code.specs.Layers.{off, Exact}
use Rattle.code.specs.Metric.{distance_self, distance_zero}
use Rattle.code.specs.Once.{found_near, one_near}

-- at distance 0 a line is the code word itself
word_itself : (m : Model) → Lawful m → (line x : List ℕ) → length line ≡ m.n → Message x → distance line (m.encode x) ≡ 0 → line ≡ m.encode x
word_itself m law line x long mx d = distance_zero line (m.encode x) (long ∙ sym (law.long x mx)) d

-- a line that the code below finds at distance 0 is a code word
pub off_found : (m : Model) (line message part zeros part' found after : List ℕ) (d : ℕ) → Lawful m → part ≡ line → MendedOk m part zeros part' found d → d ≤ 0 → after ≡ found
    → length message ≡ message_length → MendedOk (off m) line message line after 0
off_found m line message part zeros part' found after d law p ok small a long =
    let none : distance part (m.encode found) ≡ 0 = omega (arith, ok.answer ∙ ap (distance part) ok.becomes) in
    let same : part ≡ m.encode found = word_itself m law part found ok.sized.line_long ok.is_message none in
    record {
      sized = record { message_long = long; line_long = ap length (sym p) ∙ ok.sized.line_long };
      symbols = subst Symbols p ok.symbols;
      is_message = subst Message (sym a) ok.is_message;
      becomes = sym p ∙ same ∙ ap m.encode (sym a);
      answer = sym (distance_self line);
      near = omega arith;
    }

-- a line that the code below had to mend is no code word
pub off_far : (m : Model) (line message line' message' : List ℕ) (d : ℕ) → Lawful m → MendedOk m line message line' message' d → 0 < d → Far (off m) line
off_far m line message line' message' d law ok pos x near =
    let mended = found_near m line message line' message' d ok in
    let one : x ≡ message' =
    one_near m law line x message' ok.sized.line_long (record { is_message = near.is_message; within = omega (arith, near.within) }) mended in
    omega (arith, ok.answer ∙ ap (distance line) (ok.becomes ∙ ap m.encode (sym one)), near.within)

pub exact : (m : Model) → Lawful m → Exact m
exact m law = record {
  accepts = λ line message line' message' d ok.
      let none : distance line (m.encode message') ≡ 0 = omega (arith, ok.near, ok.answer ∙ ap (distance line) ok.becomes) in
      let same : line ≡ m.encode message' = word_itself m law line message' ok.sized.line_long ok.is_message none in
      (record { message = message'; is_message = ok.is_message; is_word = same }, ok.becomes ∙ sym same, omega (arith, ok.near));
  refuses = λ line message line' message' h w.
      let none : distance line (m.encode w.message) ≡ 0 = ap (λ l. distance l (m.encode w.message)) w.is_word ∙ distance_self (m.encode w.message) in
      h.0.2 w.message (record { is_message = w.is_message; within = omega arith });
}
