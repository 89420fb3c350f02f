-- Words written, damaged and read are home again.
use Rattle.std.proofs.Common.{◌≡◌, ℕ, ◌≤◌, List, length, Ok, Err, ap, ◌∙◌, subst, arith}
use Rattle.words.specs.Words.{raws}
use Rattle.words.specs.declared.word.Word.{Word}
use Rattle.messages.specs.Messages.{word_count}
use Rattle.messages.specs.Numbers.{message_of}
use Rattle.code.specs.Distance.{distance}
use Rattle.code.specs.Codes.{Model, Lawful}
use Rattle.port.specs.Calls.{Sized, Ready, Written, WrittenOk, Reads, line_of, one_accepted}
use Rattle.port.specs.Limits.{zeros}
use Rattle.port.specs.Promise.{Answer, Eighty}
use Rattle.port.specs.declared.totals.Totals.{Totals}
use Rattle.port.specs.declared.refusal.PortRefusal.TheVariants.{Opening, Length, Full, Code, Message as Unread}
use Rattle.loopback.specs.Damage.{flipped}
use Rattle.loopback.specs.Carried.{CarriedHome, ReadHome}
use Rattle.loopback.proofs.Flips.{length_flipped, symbols_flipped, distance_flipped}
use Rattle.loopback.proofs.Homes.{message_of_words, home}

-- words of the right number and a line of the right length are written
wrote : (m : Model) (words : List Word) (line line' : List ℕ) (w : Answer) → Sized m words line → Written m words line line' w → WrittenOk m words line line'
wrote m words line line' (Ok u) s w = w
wrote m words line line' (Err Length) s w = absurd (w.0 s)
wrote m words line line' (Err Opening) s w = absurd w.0
wrote m words line line' (Err Full) s w = absurd w.0
wrote m words line line' (Err (Code e)) s w = absurd w.0
wrote m words line line' (Err (Unread e)) s w = absurd w.0

module _ (m : Model) (law : Lawful m) (words : List Word) (eighty : Eighty words) where
  long : length (line_of m words) ≡ m.n
  long = law.long (message_of (raws words)) (message_of_words words eighty).message

  far : distance (flipped 7 (line_of m words)) (line_of m words) ≡ 7
  far = let l = long in let h = law.n_low in distance_flipped 7 (line_of m words) (omega arith)

  ready : (given : List Word) → length given ≡ word_count → Ready m zeros (flipped 7 (line_of m words)) given
  ready given n =
      record {
        sized = record { words_long = n; line_long = length_flipped 7 (line_of m words) ∙ long };
        symbols = symbols_flipped 7 (line_of m words) (law.symbols (message_of (raws words)) (message_of_words words eighty).message);
        room = (omega arith, (let h = law.t_high in omega arith));
      }

  journey : (line' : List ℕ) (given words' : List Word) (a : Totals) (r : Answer) → length given ≡ word_count → length words' ≡ word_count
      → Reads m zeros (flipped 7 (line_of m words)) given line' words' a r → CarriedHome m words words' a
  journey line' given words' a r n k s = record { same = λ h. (back h).same; counted = λ h. (back h).counts ∙ ap (one_accepted zeros) far }
    where
      back : 7 ≤ m.t → ReadHome m zeros (flipped 7 (line_of m words)) words line' words' a r
      back h = home m law zeros a (flipped 7 (line_of m words)) line' words given words' r eighty (let f = far in omega arith) (ready given n) k s

-- the code of the port stays the same, k₀ to k₁
pub carried : {K : Type 0} (M : K → Model) (k₀ k₁ : K) → k₁ ≡ k₀ → Lawful (M k₀) → (words : List Word) (line₀ line₁ line₂ line₃ : List ℕ) (given words' : List Word) (a b : Totals) (w r : Answer)
    → length words ≡ word_count → length line₀ ≡ (M k₀).n → Written (M k₁) words line₀ line₁ w → line₂ ≡ flipped 7 line₁
    → b ≡ zeros → length given ≡ word_count → length words' ≡ word_count → Reads (M k₁) b line₂ given line₃ words' a r
    → CarriedHome (M k₀) words words' a
carried M k₀ k₁ e law words line₀ line₁ line₂ line₃ given words' a b w r n l wr f z g k s =
    let here : Written (M k₀) words line₀ line₁ w = subst (λ x. Written (M x) words line₀ line₁ w) e wr in
    let ok = wrote (M k₀) words line₀ line₁ w (record { words_long = n; line_long = l }) here in
    let is : line₂ ≡ flipped 7 (line_of (M k₀) words) = f ∙ ap (flipped 7) ok.becomes in
    let s₁ : Reads (M k₀) b line₂ given line₃ words' a r = subst (λ x. Reads (M x) b line₂ given line₃ words' a r) e s in
    let s₂ : Reads (M k₀) zeros line₂ given line₃ words' a r = subst (λ o. Reads (M k₀) o line₂ given line₃ words' a r) z s₁ in
    let s₃ = subst (λ x. Reads (M k₀) zeros x given line₃ words' a r) is s₂ in
    journey (M k₀) law words (record { count = n; valid = ok.valid }) line₃ given words' a r g k s₃
