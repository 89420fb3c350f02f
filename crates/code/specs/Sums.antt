-- For proofs: lists added symbol by symbol: their lengths, places and symbols, and that a list added twice is gone.
use Rattle.std.specs.Prelude.{◌≡◌, ℕ, zero, suc, ◌+◌, ◌/◌, ◌%◌, ◌^◌, ◌<◌, ◌≤◌, List, [], ◌∷◌, length, bit_xor, slice_index, refl}
use Rattle.std.proofs.Common.{sym, ap, ◌∙◌, arith, ext_get_or}
use Rattle.std.proofs.lemmas.Nat.{xor_lt, xor_shr}
use Rattle.std.specs.Int.Bits.{xor_add_and}
use Rattle.symbols.specs.Symbols.{Symbols}
use Rattle.code.specs.Distance.{plus}
use Rattle.code.specs.Metric.{xor_twice}

pub length_plus : (x y : List ℕ) → length (plus x y) ≡ length x
unfolding plus
length_plus [] y = refl
length_plus (a ∷ x) [] = refl
length_plus (a ∷ x) (b ∷ y) = ap suc (length_plus x y)

pub plus_twice : (x y : List ℕ) → plus (plus x y) y ≡ x
unfolding plus
plus_twice [] y = refl
plus_twice (a ∷ x) [] = refl
plus_twice (a ∷ x) (b ∷ y) = let e = xor_twice a b in let i = plus_twice x y in cc

pub get_or_plus : (x y : List ℕ) (i : ℕ) → i < length x → i < length y → slice_index (plus x y) i ≡ bit_xor (slice_index x i) (slice_index y i)
unfolding plus
get_or_plus [] y i h k = omega arith
get_or_plus (a ∷ x) [] i h k = omega arith
get_or_plus (a ∷ x) (b ∷ y) zero h k = refl
get_or_plus (a ∷ x) (b ∷ y) (suc i) h k = get_or_plus x y i (omega arith) (omega arith)

pub plus_symbols : (x y : List ℕ) → length x ≡ length y → Symbols x → Symbols y → Symbols (plus x y)
plus_symbols x y l s u i h =
    let k : i < length x = omega (arith, length_plus x y) in
    let e = get_or_plus x y i k (omega arith) in
    let b = xor_lt 10 (slice_index x i) (slice_index y i) (s i k) (u i (omega arith)) in
    omega arith

-- a list that was added to place by place
pub plus_by_places : (x y z : List ℕ) → length z ≡ length x → length x ≤ length y → ((i : ℕ) → i < length x → slice_index z i ≡ bit_xor (slice_index x i) (slice_index y i)) → z ≡ plus x y
plus_by_places x y z l k p =
    ext_get_or 0 z (plus x y) (l ∙ sym (length_plus x y)) (λ i b. p i (omega arith) ∙ sym (get_or_plus x y i (omega arith) (omega arith)))

-- bit r of a sum is the sum of the bits modulo 2
pub xor_bit : (a b r : ℕ) → bit_xor a b / 2 ^ r % 2 ≡ (a / 2 ^ r + b / 2 ^ r) % 2
xor_bit a b r =
    let x = a / 2 ^ r in
    let y = b / 2 ^ r in
    let s = xor_add_and x y in
    let e : bit_xor a b / 2 ^ r ≡ bit_xor x y = xor_shr a b r in
    ap (λ n. n % 2) e ∙ omega arith
