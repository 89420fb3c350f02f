-- A line near that of eighty valid words is read to just these words.
use Rattle.std.proofs.Common.{◌≡◌, ℕ, ◌≤◌, List, Ok, Err, refl, ap, ◌∙◌, subst, arith}
use Rattle.std.proofs.lemmas.List.{length-map}
use Rattle.words.specs.Words.{raw, raws}
use Rattle.words.specs.declared.word.Word.{Word}
use Rattle.messages.specs.Messages.{MessageOf, FirstRefused}
use Rattle.messages.specs.Numbers.{message_of}
use Rattle.messages.specs.declared.refusal.MessageRefusal.TheVariants as of_message
use Rattle.messages.proofs.Alone.{has_message, no_other}
use Rattle.code.specs.Distance.{distance}
use Rattle.code.specs.Codes.{Model, Lawful, Near}
use Rattle.code.specs.declared.refusal.CodeRefusal.TheVariants as of_code
use Rattle.code.specs.Once.{one_near}
use Rattle.port.specs.Calls.{line_of, one_accepted}
use Rattle.port.specs.Promise.{Eighty}
use Rattle.port.specs.declared.refusal.PortRefusal.TheVariants.{Opening, Length, Full, Code, Message as Unread}
use Rattle.loopback.specs.Carried.{NearLinesReadHome}
use Rattle.loopback.proofs.Readable.{message_read}

pub message_of_words : (w : List Word) → Eighty w → MessageOf (raws w) (message_of (raws w))
message_of_words w e = has_message (raws w) (length-map w raw ∙ e.count) e.valid

module _ (m : Model) (law : Lawful m) where
  near_words : (line : List ℕ) (words : List Word) → Eighty words → distance line (line_of m words) ≤ m.t → Near m line (message_of (raws words))
  near_words line words e d = record { is_message = (message_of_words words e).message; within = d }

  pub home : NearLinesReadHome m
  home a a' line line' words given words' (Ok u) e d ready n s =
      let same = one_near m law line s.message (message_of (raws words)) ready.sized.line_long s.near (near_words line words e d) in
      let b : line' ≡ line_of m words = s.becomes ∙ ap m.encode same in
      record {
        accepted = refl;
        same = no_other words' words n e.count s.reads.0 e.valid (s.again ∙ same);
        becomes = b;
        counts = s.counts ∙ ap (λ l. one_accepted a (distance line l)) b;
      }
  home a a' line line' words given words' (Err (Code of_code.NoCodeWord)) e d ready n s = absurd (s.0.1 (message_of (raws words)) (near_words line words e d))
  home a a' line line' words given words' (Err (Unread (of_message.Block b f))) e d ready n s =
      let u = s.0.1 in
      let same = one_near m law line u.message (message_of (raws words)) ready.sized.line_long u.near (near_words line words e d) in
      let r : FirstRefused (message_of (raws words)) b f = subst (λ x. FirstRefused x b f) same u.refused in
      absurd (message_read (raws words) (message_of (raws words)) b f (length-map words raw ∙ e.count) e.valid (message_of_words words e) r)
  home a a' line line' words given words' (Err (Code (of_code.Symbol p))) e d ready n s =
      let f = s.0.1 in
      let g = ready.symbols p f.within in
      let h = f.above in
      absurd (omega arith)
  home a a' line line' words given words' (Err Length) e d ready n s = absurd (s.0.0 ready.sized)
  home a a' line line' words given words' (Err Full) e d ready n s = absurd (s.0.2 ready.room)
  home a a' line line' words given words' (Err (Code of_code.Length)) e d ready n s = absurd s.0
  home a a' line line' words given words' (Err (Unread (of_message.Symbol p))) e d ready n s = absurd s.0
  home a a' line line' words given words' (Err Opening) e d ready n s = absurd s.0
