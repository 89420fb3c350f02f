-- One TUI sent after those already sent.
use Rattle.std.proofs.Common.{◌≡◌, ℕ, suc, ◌+◌, ◌-◌, ◌*◌, ◌/◌, ◌%◌, ◌^◌, ◌<◌, ◌≤◌, List, [], ◌∷◌, ◌++◌, length, get_or, take, set, sym, ap, ◌∙◌, inl, inr, mod-lt, add_comm, arith, length-set, pow_pos}
use lib.Pow.{mod-mod-pow}
use Rattle.std.proofs.lemmas.Nat.{field_of, shr_high, mod_low}
use Rattle.std.proofs.lemmas.List.{get_or-set_same, get_or-set_other, take_more}
use Rattle.std.proofs.lemmas.Bool.{cases_eq}
use Rattle.signal.specs.Signal.{bits_of}
use Rattle.signal.proofs.Bits.{take_same, length_bits, get_or_bits}

-- the bits below bit k, with bit k put above them
abbrev pub put : ℕ → ℕ → ℕ → ℕ
put b k v = b % 2 ^ k + v * 2 ^ k

turn_about : (b k v : ℕ) → put b k v ≡ v * 2 ^ k + b % 2 ^ k
turn_about b k v = add_comm (b % 2 ^ k) (v * 2 ^ k)

-- a bit below k is that of the number cut at bit k
cut_bit : (x m r : ℕ) → x % 2 ^ (suc r + m) / 2 ^ m % 2 ≡ x / 2 ^ m % 2
cut_bit x m r = ap (λ (y : ℕ). y % 2) (field_of x (suc r) m) ∙ (let e : suc r ≡ r + 1 = omega arith in ap (λ (j : ℕ). x / 2 ^ m % 2 ^ j % 2) e ∙ mod-mod-pow (x / 2 ^ m) r 1)

below_bit : (x m k : ℕ) → m < k → x % 2 ^ k / 2 ^ m % 2 ≡ x / 2 ^ m % 2
below_bit x m k h =
    let e : k ≡ suc (k - suc m) + m = omega arith in
    ap (λ (j : ℕ). x % 2 ^ j / 2 ^ m % 2) e ∙ cut_bit x m (k - suc m)

-- the bits of such a number, below bit k and at it
pub put_below : (b k v m : ℕ) → m < k → put b k v / 2 ^ m % 2 ≡ b / 2 ^ m % 2
put_below b k v m h =
    let low = mod_low v k (b % 2 ^ k) (mod-lt b (pow_pos k)) in
    let same : put b k v % 2 ^ k ≡ b % 2 ^ k = ap (λ (y : ℕ). y % 2 ^ k) (turn_about b k v) ∙ low in
    sym (below_bit (put b k v) m k h) ∙ ap (λ (y : ℕ). y / 2 ^ m % 2) same ∙ below_bit b m k h

pub put_at : (b k v : ℕ) → v < 2 → put b k v / 2 ^ k % 2 ≡ v
put_at b k v h =
    let high = shr_high v k (b % 2 ^ k) (mod-lt b (pow_pos k)) in
    let e : put b k v / 2 ^ k ≡ v = ap (λ (y : ℕ). y / 2 ^ k) (turn_about b k v) ∙ high in
    omega arith

-- the bits before the one that is put
module _ (bs : List ℕ) (i v : ℕ) (h : i < 8 * length bs) where
  abbrev byte : ℕ
  byte = put (get_or bs (i / 8) 0) (i % 8) v

  abbrev after : List ℕ
  after = set bs (i / 8) byte

  in_bytes : i / 8 < length bs
  in_bytes = omega arith

  earlier_one : (k : ℕ) → k < i → get_or (bits_of after) k 0 ≡ get_or (bits_of bs) k 0
  earlier_one k l = get_or_bits after k ∙ elim (cases_eq (k / 8) (i / 8)) [ inl e ↦ in_byte k l e | inr d ↦ in_other k d ] ∙ sym (get_or_bits bs k)
    where
      in_byte : (k : ℕ) → k < i → k / 8 ≡ i / 8 → get_or after (k / 8) 0 / 2 ^ (k % 8) % 2 ≡ get_or bs (k / 8) 0 / 2 ^ (k % 8) % 2
      in_byte k l e =
          let lower : k % 8 < i % 8 = omega arith in
          let at : get_or after (k / 8) 0 ≡ byte = ap (λ (j : ℕ). get_or after j 0) e ∙ get_or-set_same bs (i / 8) byte 0 in_bytes in
          ap (λ (y : ℕ). y / 2 ^ (k % 8) % 2) at ∙ put_below (get_or bs (i / 8) 0) (i % 8) v (k % 8) lower ∙ ap (λ (j : ℕ). get_or bs j 0 / 2 ^ (k % 8) % 2) (sym e)

      in_other : (k : ℕ) → (k / 8 ≡ i / 8 → ⊥) → get_or after (k / 8) 0 / 2 ^ (k % 8) % 2 ≡ get_or bs (k / 8) 0 / 2 ^ (k % 8) % 2
      in_other k d = ap (λ (y : ℕ). y / 2 ^ (k % 8) % 2) (get_or-set_other bs (i / 8) (k / 8) byte 0 d)

  -- the bytes with one bit put above those below it in its byte
  pub sent_one : v < 2 → take (i + 1) (bits_of after) ≡ take i (bits_of bs) ++ v ∷ []
  sent_one l =
      let long : length after ≡ length bs = length-set bs (i / 8) byte in
      let room : i < length (bits_of after) = omega (arith, length_bits after) in
      let before : i ≤ length (bits_of bs) = omega (arith, length_bits bs) in
      let here : get_or (bits_of after) i 0 ≡ v = get_or_bits after i ∙ ap (λ (y : ℕ). y / 2 ^ (i % 8) % 2) (get_or-set_same bs (i / 8) byte 0 in_bytes) ∙ put_at (get_or bs (i / 8) 0) (i % 8) v l in
      let earlier = take_same (bits_of after) (bits_of bs) i (omega arith) before earlier_one in
      take_more (bits_of after) i 0 room ∙ ap (λ (xs : List ℕ). xs ++ get_or (bits_of after) i 0 ∷ []) earlier ∙ ap (λ (y : ℕ). take i (bits_of bs) ++ y ∷ []) here
