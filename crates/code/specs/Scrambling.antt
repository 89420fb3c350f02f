-- For proofs: the key, and the key added to a line.
use Rattle.std.specs.Prelude.{◌≡◌, ℕ, ◌+◌, ◌*◌, ◌/◌, ◌%◌, ◌^◌, ◌<◌, List, length, pos, bit_xor, slice_index, slice_index_or}
use Rattle.std.proofs.Common.{sym, ap, ◌∙◌, arith}
use Rattle.std.proofs.lemmas.List.FromFn.{length-map-range_with_len, get_or-map-range_with_len}
use Rattle.symbols.specs.Symbols.{Symbols}
use Rattle.code.specs.Distance.{distance, plus}
use Rattle.code.specs.Layers.{keys, with_key, KeyLaws}
use Rattle.code.specs.Sequence.{key, sequence}
use Rattle.code.specs.Metric.{distance_plus}
use Rattle.code.specs.Recur.{sequence_laws}
use Rattle.code.specs.Sums.{length_plus, plus_twice, plus_symbols, plus_by_places, get_or_plus, xor_bit}

pub length_keys : (n : ℕ) → length (keys n) ≡ n
unfolding keys
length_keys n = length-map-range_with_len key 0 n

pub get_or_keys : (n i : ℕ) → i < n → slice_index (keys n) i ≡ key i
unfolding keys
get_or_keys n i h = get_or-map-range_with_len key 0 n i i 0 h (omega arith)

keys_symbols : (n : ℕ) → Symbols (keys n)
keys_symbols n i h = let k : i < n = omega (arith, length_keys n) in omega (arith, get_or_keys n i k, sequence_laws.symbols i)

pub length_with_key : (x : List ℕ) → length (with_key x) ≡ length x
length_with_key x = length_plus x (keys (length x))

-- a line that had the key added place by place
pub with_key_by_places : (x z : List ℕ) → length z ≡ length x → ((i : ℕ) → i < length x → slice_index z i ≡ bit_xor (slice_index x i) (key i)) → z ≡ with_key x
with_key_by_places x z l p =
    plus_by_places x (keys (length x)) z l (omega (arith, length_keys (length x)))
    (λ i h. p i h ∙ ap (bit_xor (slice_index x i)) (sym (get_or_keys (length x) i h)))

with_key_twice : (x : List ℕ) → with_key (with_key x) ≡ x
with_key_twice x = ap (λ n. plus (with_key x) (keys n)) (length_with_key x) ∙ plus_twice x (keys (length x))

with_key_symbols : (x : List ℕ) → Symbols x → Symbols (with_key x)
with_key_symbols x s = plus_symbols x (keys (length x)) (sym (length_keys (length x))) s (keys_symbols (length x))

with_key_distance : (x y : List ℕ) → length x ≡ length y → distance (with_key x) (with_key y) ≡ distance x y
with_key_distance x y l = ap (λ n. distance (with_key x) (plus y (keys n))) (sym l) ∙ distance_plus x y (keys (length x))

-- a line is as far from a word with the key as the line with the key is from the word
pub across : (line word : List ℕ) → length line ≡ length word → distance line (with_key word) ≡ distance (with_key line) word
across line word l =
    ap (λ x. distance x (with_key word)) (sym (with_key_twice line)) ∙ with_key_distance (with_key line) word (length_with_key line ∙ l)

with_key_bits : (x : List ℕ) (s r : ℕ) → s < length x → r < 10 → slice_index (with_key x) s / 2 ^ r % 2 ≡ (slice_index x s / 2 ^ r + sequence (pos (10 * s + r))) % 2
with_key_bits x s r h b =
    let e : slice_index_or (with_key x) s 0 ≡ bit_xor (slice_index x s) (key s) =
    get_or_plus x (keys (length x)) s h (omega (arith, length_keys (length x))) ∙ ap (bit_xor (slice_index x s)) (get_or_keys (length x) s h) in
    let q : key s / 2 ^ r % 2 ≡ sequence (pos (10 * s + r)) = sequence_laws.bits s r b in
    ap (λ n. n / 2 ^ r % 2) e ∙ xor_bit (slice_index x s) (key s) r ∙ omega arith

pub key_laws : KeyLaws
key_laws = record { bits = with_key_bits; keeps_symbols = with_key_symbols; keeps_distance = with_key_distance; twice_nothing = with_key_twice }
