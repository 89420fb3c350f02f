-- What is left of a line: its values are the line's at the roots, and nothing is left of a code word only.
use Rattle.std.proofs.Common.{◌≡◌, ℕ, ◌+◌, ◌*◌, ◌<◌, ◌≤◌, List, [], ◌∷◌, ◌++◌, reverse, length, get_or, take, drop, replicate, sym, refl, ap, ◌∙◌, subst, arith, length-drop, take-append-drop, length-take, length-take-le, get_or-drop, get_or-take, ext_get_or}
use lib.Bits.{bit_xor}
use Rattle.std.proofs.lemmas.List.{take_more, reverse-append}
use Rattle.symbols.specs.Symbols.{Symbols, Message}
use Rattle.field.specs.Field.{mul}
use Rattle.field.proofs.Linear.{xor_zero_eq}
use Rattle.reed_solomon_algebra.specs.Polynomials.{value, plus, Elements}
use Rattle.reed_solomon_algebra.specs.CodeWords.{CodeWord, line_length}
use Rattle.reed_solomon_algebra.specs.Division.{parity, encode}
use Rattle.reed_solomon_algebra.proofs.Polynomials.{plus_at}
use Rattle.reed_solomon_algebra.proofs.Generator.{elements}
use Rattle.reed_solomon_algebra.proofs.Divides.{zeros_at}
use Rattle.reed_solomon_algebra.proofs.Encodes.{rest_length, whole_value, encode_word}
use Rattle.reed_solomon.proofs.Nearness.{Syndromes}

pub parity_length : (t : ℕ) (m : List ℕ) → length (parity t m) ≡ 2 * t
unfolding parity
parity_length t m = rest_length (2 * t) m

-- what is left of a line
abbrev pub rest_of : ℕ → List ℕ → List ℕ
rest_of t line = plus (parity t (take 514 line)) (drop 514 line)

joined : (t : ℕ) (line : List ℕ) → parity t (take 514 line) ≡ drop 514 line → line ≡ encode t (take 514 line)
unfolding encode
joined t line same = sym (take-append-drop 514 line) ∙ ap (λ (l : List ℕ). take 514 line ++ l) (sym same)

pub take_symbols : (n : ℕ) (line : List ℕ) → Symbols line → Symbols (take n line)
take_symbols n line s k h =
    let here : k < n = omega (arith, length-take n line) in
    subst (λ (x : ℕ). x < 1024) (sym (get_or-take n line k 0 here)) (s k (omega (arith, length-take n line)))

module _ (t : ℕ) (small : t ≤ 15) (line : List ℕ) (long : length line ≡ line_length t) (symbols : Symbols line) where
  front_message : Message (take 514 line)
  front_message = record { long = length-take-le 514 line (omega arith); symbols = take_symbols 514 line symbols }

  tail_length : length (drop 514 line) ≡ 2 * t
  tail_length = length-drop 514 line ∙ omega arith

  tail_elements : Elements (drop 514 line)
  tail_elements k = subst (λ (x : ℕ). x < 1024) (sym (get_or-drop 514 line k 0)) (elements line symbols (514 + k))

  -- it has the line's values at the generator's roots
  pub rest_syndromes : (s : List ℕ) → Syndromes (2 * t) (rest_of t line) s → Syndromes (2 * t) line s
  unfolding parity
  rest_syndromes s h j q =
      h j q ∙ whole_value (2 * t) line (take 514 line) (drop 514 line) j (sym (take-append-drop 514 line)) symbols tail_length tail_elements q

  -- a line of which nothing is left is a code word
  pub clean_word : rest_of t line ≡ replicate (2 * t) 0 → CodeWord t line
  clean_word none = subst (CodeWord t) (sym (joined t line same)) (encode_word t small (take 514 line) front_message)
    where
      same : parity t (take 514 line) ≡ drop 514 line
      same =
          ext_get_or 0 (parity t (take 514 line)) (drop 514 line) (parity_length t (take 514 line) ∙ sym tail_length)
          (λ i h. xor_zero_eq (get_or (parity t (take 514 line)) i 0) (get_or (drop 514 line) i 0)
          (sym (plus_at (parity t (take 514 line)) (drop 514 line) i) ∙ ap (λ (l : List ℕ). get_or l i 0) none ∙ zeros_at (2 * t) i))

-- ---- the loop of a value

pub value_more : (x : ℕ) (line : List ℕ) (i : ℕ) → i < length line
    → value x (reverse (take (i + 1) line)) ≡ bit_xor (get_or line i 0) (mul x (value x (reverse (take i line))))
unfolding value
value_more x line i h = ap (value x) (ap reverse (take_more line i 0 h) ∙ reverse-append (take i line) (get_or line i 0 ∷ []))

pub value_none : (x : ℕ) → value x [] ≡ 0
unfolding value
value_none x = refl
