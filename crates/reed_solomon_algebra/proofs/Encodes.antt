-- The message with its parity behind it is a code word, and the only one that begins so.
use Rattle.std.proofs.Common.{◌≡◌, ℕ, suc, ◌+◌, ◌*◌, ◌<◌, ◌≤◌, List, [], ◌∷◌, ◌++◌, reverse, length, take, drop, replicate, sym, ap, ◌∙◌, subst, ap₂, arith, lit<, length-append, length-drop, take-append-drop, take_at}
use lib.Bits.{bit_xor, xor_self, xor_zero_l}
use lib.ListN.{length-replicate}
use Rattle.code.specs.Codes.{Lawful}
use Rattle.symbols.specs.Symbols.{Symbols, Message}
use Rattle.field.specs.Field.{mul, pow}
use Rattle.field.proofs.Laws.{mul_zero_r}
use Rattle.field.proofs.Powers.{pow_lt}
use Rattle.reed_solomon_algebra.specs.Polynomials.{value, plus, Elements}
use Rattle.code.specs.Distance.{distance}
use Rattle.reed_solomon_algebra.specs.CodeWords.{CodeWord, WordOf, line_length}
use Rattle.reed_solomon_algebra.specs.Division.{Vanishes, below_first, remainder, parity, encode, reed_solomon_code}
use Rattle.reed_solomon_algebra.specs.Laws.{CodeLaws}
use Rattle.reed_solomon_algebra.proofs.Metric.{distance_within, distance_append}
use Rattle.reed_solomon_algebra.proofs.Polynomials.{line_value, value_line}
use Rattle.reed_solomon_algebra.proofs.Differences.{equal_lines}
use Rattle.reed_solomon_algebra.proofs.Generator.{elements, elements_cons, elements_plus, below_length, below_value}
use Rattle.reed_solomon_algebra.proofs.Division.{line_value_append, line_value_plus, line_value_zeros, remainder_length, remainder_elements, remainder_value}
use Rattle.reed_solomon_algebra.proofs.Divides.{divisible_vanishes, vanishes_divisible, zeros_at}

elements_append : (p q : List ℕ) → Elements p → Elements q → Elements (p ++ q)
elements_append [] q v w = w
elements_append (a ∷ p) q v w = elements_cons a (p ++ q) (v 0) (elements_append p q (λ k. v (suc k)) w)

-- ---- a list with what k roots leave of it, whatever its length

abbrev pub rest : ℕ → List ℕ → List ℕ
rest k m = remainder (below_first k) (replicate k 0) m

pub rest_length : (k : ℕ) (m : List ℕ) → length (rest k m) ≡ k
rest_length k m =
    remainder_length (below_first k) (replicate k 0) m (below_length k ∙ sym (length-replicate k 0)) ∙ length-replicate k 0

rest_elements : (k : ℕ) (m : List ℕ) → Elements (rest k m)
rest_elements k m =
    remainder_elements (below_first k) (replicate k 0) m (λ i. subst (λ (x : ℕ). x < 1024) (sym (zeros_at k i)) (lit< tt))

pub rest_value : (k j : ℕ) (m : List ℕ) → j < k → line_value (pow 2 j) (rest k m) ≡ mul (pow (pow 2 j) k) (line_value (pow 2 j) m)
rest_value k j m h =
    let x = pow 2 j in
    let lz : length {A = ℕ} (replicate k 0) ≡ k = length-replicate k 0 in
    remainder_value x (below_first k) (replicate k 0) m (pow_lt 2 j) (omega arith) (below_length k ∙ sym lz) (below_value k j h ∙ ap (pow x) (sym lz))
    ∙ ap₂ bit_xor (ap (mul (pow x (length m))) (line_value_zeros x k) ∙ mul_zero_r (pow x (length m))) (ap (λ (n : ℕ). mul (pow x n) (line_value x m)) lz)
    ∙ xor_zero_l (mul (pow x k) (line_value x m))

joined_symbols : (k : ℕ) (m : List ℕ) → Symbols m → Symbols (m ++ rest k m)
joined_symbols k m s i h = elements_append m (rest k m) (elements m s) (rest_elements k m) i

joined_vanishes : (k : ℕ) (m : List ℕ) → Symbols m → Vanishes k (m ++ rest k m)
joined_vanishes k m s j h =
    let x = pow 2 j in
    value_line x (m ++ rest k m) (joined_symbols k m s)
    ∙ line_value_append x m (rest k m)
    ∙ ap₂ bit_xor (ap (λ (n : ℕ). mul (pow x n) (line_value x m)) (rest_length k m)) (rest_value k j m h)
    ∙ xor_self (mul (pow x k) (line_value x m))

-- ---- the rest of a line that need not be a code word

-- what the division of the front leaves, and the tail: at a root of the generator it has the value of the line
pub whole_value : (k : ℕ) (line m tail : List ℕ) (j : ℕ) → line ≡ m ++ tail → Symbols line → length tail ≡ k → Elements tail → j < k
    → value (pow 2 j) (reverse (plus (rest k m) tail)) ≡ value (pow 2 j) (reverse line)
whole_value k line m tail j parts s long el h =
    let x = pow 2 j in
    let both : Symbols (plus (rest k m) tail) = λ i q. elements_plus (rest k m) tail (rest_elements k m) el i in
    value_line x (plus (rest k m) tail) both
    ∙ line_value_plus x (rest k m) tail (rest_length k m ∙ sym long)
    ∙ ap (λ (y : ℕ). bit_xor y (line_value x tail)) (rest_value k j m h ∙ ap (λ (n : ℕ). mul (pow x n) (line_value x m)) (sym long))
    ∙ sym (line_value_append x m tail)
    ∙ ap (line_value x) (sym parts) ∙ sym (value_line x line s)

-- ---- the code

module _ (t : ℕ) (small : t ≤ 15) where
  pub vanishing_word : (line : List ℕ) → length line ≡ line_length t → Symbols line → Vanishes (2 * t) line → CodeWord t line
  vanishing_word line l s v =
      record { long = l; symbols = s; divisible = vanishes_divisible (2 * t) 513 line (omega arith) (l ∙ omega arith) s v }

  pub encode_word : (m : List ℕ) → Message m → CodeWord t (encode t m)
  unfolding encode parity
  encode_word m mm =
      vanishing_word (m ++ rest (2 * t) m)
      (length-append m (rest (2 * t) m) ∙ ap₂ ◌+◌ mm.long (rest_length (2 * t) m))
      (joined_symbols (2 * t) m mm.symbols) (joined_vanishes (2 * t) m mm.symbols)

  encode_begins : (m : List ℕ) → Message m → take 514 (encode t m) ≡ m
  unfolding encode
  encode_begins m mm = take_at m (parity t m) 514 mm.long

  pub words_equal : (x y : List ℕ) → CodeWord t x → CodeWord t y → distance x y ≤ 2 * t → x ≡ y
  words_equal x y wx wy d =
      equal_lines (2 * t) x y (wx.long ∙ sym wy.long) (omega (arith, wx.long)) wx.symbols wy.symbols
      (divisible_vanishes (2 * t) x wx.divisible) (divisible_vanishes (2 * t) y wy.divisible) d

  pub words_distant : (x y : List ℕ) → CodeWord t x → CodeWord t y → (x ≡ y → ⊥) → 2 * t + 1 ≤ distance x y
  words_distant x y wx wy ne =
      let f : distance x y ≤ 2 * t → ⊥ = λ h. ne (words_equal x y wx wy h) in
      grind arith

  pub encode_only : (m line : List ℕ) → Message m → CodeWord t line → take 514 line ≡ m → line ≡ encode t m
  unfolding encode parity
  encode_only m line mm w b =
      let parts : line ≡ m ++ drop 514 line = sym (take-append-drop 514 line) ∙ ap (λ (x : List ℕ). x ++ drop 514 line) b in
      let far : distance line (m ++ rest (2 * t) m) ≡ distance (drop 514 line) (rest (2 * t) m) =
      ap (λ (x : List ℕ). distance x (m ++ rest (2 * t) m)) parts ∙ distance_append m (drop 514 line) (rest (2 * t) m) in
      words_equal line (m ++ rest (2 * t) m) w (encode_word m mm)
      (omega (arith, distance_within (drop 514 line) (rest (2 * t) m), length-drop 514 line, w.long))

  pub word_of : (m : List ℕ) → Message m → WordOf t m (encode t m)
  word_of m mm = record { begins = encode_begins m mm; word = encode_word m mm; only = λ line w b. encode_only m line mm w b }

  pub lawful : Lawful (reed_solomon_code t)
  lawful =
      record {
        n_low = omega arith;
        n_high = omega arith;
        t_high = small;
        long = λ x mx. (encode_word x mx).long;
        symbols = λ x mx. (encode_word x mx).symbols;
        apart = λ x y mx my ne.
            words_distant (encode t x) (encode t y) (encode_word x mx) (encode_word y my)
            (λ e. ne (sym (encode_begins x mx) ∙ ap (take 514) e ∙ encode_begins y my));
      }

  zeros_word : CodeWord t (replicate (line_length t) 0)
  zeros_word =
      let n = line_length t in
      let s : Symbols (replicate n 0) = λ i h. subst (λ (x : ℕ). x < 1024) (sym (zeros_at n i)) (lit< tt) in
      vanishing_word (replicate n 0) (length-replicate n 0) s
      (λ j h. value_line (pow 2 j) (replicate n 0) s ∙ line_value_zeros (pow 2 j) n)

  pub code_laws : CodeLaws t
  code_laws =
      record {
        word = word_of;
        lawful = lawful;
        distant = words_distant;
        heavy = λ x w ne. words_distant x (replicate (line_length t) 0) w zeros_word ne;
        vanishes = λ line w. divisible_vanishes (2 * t) line w.divisible;
        divides = vanishing_word;
      }
