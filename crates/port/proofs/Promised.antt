-- The promise of the port, from the law of its code.
use Rattle.std.proofs.Common.{◌≡◌, ℕ, ◌+◌, ◌*◌, ◌<◌, ◌≤◌, true, false, List, length, Ok, Err, sym, refl, ap, ◌∙◌, subst, inl, inr, arith}
use Rattle.std.proofs.lemmas.List.{length-map}
use Rattle.std.proofs.lemmas.Bool.{cases_lt}
use Rattle.symbols.specs.Symbols.{Message}
use Rattle.words.specs.Words.{raw, raws}
use Rattle.words.specs.declared.word.Word.{Word}
use Rattle.messages.specs.Messages.{MessageRead}
use Rattle.messages.specs.Numbers.{message_of}
use Rattle.messages.specs.declared.refusal.MessageRefusal.TheVariants as of_message
use Rattle.messages.proofs.Alone.{has_message, no_other}
use Rattle.code.specs.Distance.{distance}
use Rattle.code.specs.Codes.{Model, Lawful, Near, Far}
use Rattle.code.specs.declared.refusal.CodeRefusal.TheVariants as of_code
use Rattle.code.specs.Once.{one_near}
use Rattle.port.specs.Calls.{line_of, Written, Reads}
use Rattle.port.specs.Promise.{Answer, Judged, Eighty, Answered, Promise}
use Rattle.port.proofs.Counting.{counted}
use Rattle.port.specs.declared.totals.Totals.{Totals}
use Rattle.port.specs.declared.refusal.PortRefusal.TheVariants.{Opening, Length, Full, Code, Message as Unread}

-- a judged refusal is 33 or that of a message
tf : true ≡ false → ⊥
tf e = let z : ◌≡◌ {A = ℕ} 0 1 = cc in omega arith

message_of_words : (w : List Word) → Eighty w → Message (message_of (raws w))
message_of_words w e = (has_message (raws w) (length-map w raw ∙ e.count) e.valid).message

module _ (m : Model) (law : Lawful m) where
  never_refused : (words : List Word) (line line' : List ℕ) (r : Answer) → Eighty words → length line ≡ m.n → Written m words line line' r → (r ≡ Ok tt) × (line' ≡ line_of m words)
  never_refused words line line' (Ok u) e n w = (refl, w.becomes)
  never_refused words line line' (Err Length) e n w = absurd (w.0 (record { words_long = e.count; line_long = n }))
  never_refused words line line' (Err Opening) e n w = absurd w.0
  never_refused words line line' (Err Full) e n w = absurd w.0
  never_refused words line line' (Err (Code f)) e n w = absurd w.0
  never_refused words line line' (Err (Unread f)) e n w = absurd w.0

  distant : (v w : List Word) → Eighty v → Eighty w → (v ≡ w → ⊥) → 2 * m.t + 1 ≤ distance (line_of m v) (line_of m w)
  distant v w ev ew ne =
      law.apart (message_of (raws v)) (message_of (raws w)) (message_of_words v ev) (message_of_words w ew)
      (λ e. ne (no_other v w ev.count ew.count ev.valid ew.valid e))

  exactly : (a a' : Totals) (line line' : List ℕ) (words words' : List Word) (r : Answer) → Reads m a line words line' words' a' r → Judged r
      → (r ≡ Err (Code of_code.NoCodeWord) → Far m line) × (Far m line → r ≡ Err (Code of_code.NoCodeWord))
  exactly a a' line line' words words' (Ok u) s j = (λ e. (let z : ◌≡◌ {A = ℕ} 0 1 = cc in absurd (omega arith)), λ far. absurd (far s.message s.near))
  exactly a a' line line' words words' (Err (Code of_code.NoCodeWord)) s j = (λ e. s.0.1, λ far. refl)
  exactly a a' line line' words words' (Err (Unread (of_message.Block b f))) s j =
      (λ e. (let z : ◌≡◌ {A = ℕ} 0 1 = cc in absurd (omega arith)), λ far. absurd (far s.0.1.message s.0.1.near))
  exactly a a' line line' words words' (Err Length) s j = absurd (tf (sym j))
  exactly a a' line line' words words' (Err Full) s j = absurd (tf (sym j))
  exactly a a' line line' words words' (Err (Code (of_code.Symbol p))) s j = absurd (tf (sym j))
  exactly a a' line line' words words' (Err (Code of_code.Length)) s j = absurd s.0
  exactly a a' line line' words words' (Err (Unread (of_message.Symbol p))) s j = absurd s.0
  exactly a a' line line' words words' (Err Opening) s j = absurd s.0

  answered : (a a' : Totals) (line line' x : List ℕ) (words words' : List Word) (r : Answer) → Reads m a line words line' words' a' r → Judged r → Near m line x → Answered m x line' words' r
  answered a a' line line' x words words' (Ok u) s j near =
      let same = one_near m law line s.message x s.ready.sized.line_long s.near near in
      (s.becomes ∙ ap m.encode same, subst (λ y. MessageRead y (Ok words')) same s.reads)
  answered a a' line line' x words words' (Err (Code of_code.NoCodeWord)) s j near = absurd (s.0.1 x near)
  answered a a' line line' x words words' (Err (Unread (of_message.Block b f))) s j near =
      let u = s.0.1 in
      let same = one_near m law line u.message x s.0.0.sized.line_long u.near near in
      (of_message.Block b f, refl, subst (λ y. MessageRead y (Err (of_message.Block b f))) same u.refused)
  answered a a' line line' x words words' (Err Length) s j near = absurd (tf (sym j))
  answered a a' line line' x words words' (Err Full) s j near = absurd (tf (sym j))
  answered a a' line line' x words words' (Err (Code (of_code.Symbol p))) s j near = absurd (tf (sym j))
  answered a a' line line' x words words' (Err (Code of_code.Length)) s j near = absurd s.0
  answered a a' line line' x words words' (Err (Unread (of_message.Symbol p))) s j near = absurd s.0
  answered a a' line line' x words words' (Err Opening) s j near = absurd s.0

  out_of_reach : (line x y : List ℕ) → length line ≡ m.n → Near m line x → Message y → (y ≡ x → ⊥) → m.t < distance line (m.encode y)
  out_of_reach line x y n near my ne =
      elim (cases_lt m.t (distance line (m.encode y))) [
        | inl h ↦ h
        | inr h ↦ absurd (ne (sym (one_near m law line x y n near (record { is_message = my; within = omega arith }))))
      ]

  pub promised : Promise m
  promised =
      record {
        valid_words_are_never_refused = never_refused;
        different_words_give_distant_lines = distant;
        refused_33_exactly_when_no_code_word_is_near = exactly;
        otherwise_the_near_code_word_is_answered = answered;
        every_other_code_word_is_out_of_reach = out_of_reach;
        totals_count_every_reading = λ opening a h r. counted m opening r;
      }
