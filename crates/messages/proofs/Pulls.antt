-- Bits drawn from symbols.
use Rattle.std.proofs.Common.{◌≡◌, ℕ, ◌+◌, ◌-◌, ◌*◌, ◌/◌, ◌%◌, ◌^◌, ◌<◌, ◌≤◌, List, length, get_or, drop, sym, ap, ◌∙◌, mul_assoc, arith}
use native.Mathlib.Nat.{add-mul-div_left, add-mul-mod_self_left}
use lib.Bits.{bit_and, and_mask}
use Rattle.std.proofs.lemmas.Nat.{pow-add, pow_pos, shl_whole, one_shl, shr_below}
use Rattle.std.proofs.lemmas.List.{drop_more, length-drop}
use Rattle.std.proofs.lemmas.Grind.{get_or_after_one}
use Rattle.blocks.specs.Packed.{packed}
use Rattle.symbols.specs.Symbols.{Symbols}
use Rattle.messages.specs.Readers.{Ahead, ahead}
use Rattle.messages.proofs.Shifts.{held_more, begun}

same_ahead : (a b : Ahead) → a.bits ≡ b.bits → a.count ≡ b.count → a ≡ b
same_ahead a b p q = λ i. record { bits = p i; count = q i }

-- one symbol more
module _ (acc fill : ℕ) (xs rest : List ℕ) (is : rest ≡ drop 1 xs) where
  pub small_rest : Symbols xs → Symbols rest
  small_rest s = rw is (λ k h. rw (get_or_after_one xs k 0) (s (1 + k) (omega (arith, length-drop 1 xs))))

  pub drawn : fill < 64 → 0 < length xs → get_or xs 0 0 < 1024 → acc < 2 ^ fill
      → (acc + get_or xs 0 0 * 2 ^ fill % 2 ^ 128 < 2 ^ (fill + 10)) × (ahead (acc + get_or xs 0 0 * 2 ^ fill % 2 ^ 128) (fill + 10) rest ≡ ahead acc fill xs)
  drawn f h s l =
      let w : get_or xs 0 0 * 2 ^ fill % 2 ^ 128 ≡ get_or xs 0 0 * 2 ^ fill = shl_whole (get_or xs 0 0) 10 fill 128 s (omega arith) in
      let d : packed 10 xs ≡ get_or xs 0 0 + 2 ^ 10 * packed 10 rest = rw is (ap (packed 10) (drop_more xs 0 0 h)) in
      let b = begun acc (get_or xs 0 0) fill 10 (packed 10 rest) in
      let n : fill + 10 + 10 * length rest ≡ fill + 10 * length xs = rw is (omega (arith, length-drop 1 xs)) in
      (rw w (held_more acc (get_or xs 0 0) fill 10 l s), same_ahead _ _ (rw w (b ∙ ap (λ (y : ℕ). acc + 2 ^ fill * y) (sym d))) n)

pub mask : (acc width : ℕ) → width ≤ 64 → bit_and acc (1 * 2 ^ width % 2 ^ 128 - 1) ≡ acc % 2 ^ width
mask acc width h = rw (one_shl width 128 (omega arith)) (and_mask acc width)

module _ (acc fill width rest : ℕ) (h : width ≤ fill) where
  high : 2 ^ fill * rest ≡ 2 ^ width * (2 ^ (fill - width) * rest)
  high =
      let n : width + (fill - width) ≡ fill = omega arith in
      ap (λ (k : ℕ). 2 ^ k * rest) (sym n) ∙ rw (pow-add 2 width (fill - width)) (mul_assoc (2 ^ width) (2 ^ (fill - width)) rest)

  pub low_bits : acc % 2 ^ width ≡ (acc + 2 ^ fill * rest) % 2 ^ width
  low_bits = sym (rw high (add-mul-mod_self_left acc (2 ^ width) (2 ^ (fill - width) * rest)))

  pub high_bits : acc / 2 ^ width + 2 ^ (fill - width) * rest ≡ (acc + 2 ^ fill * rest) / 2 ^ width
  high_bits = sym (rw high (add-mul-div_left acc (2 ^ (fill - width) * rest) (pow_pos width)))

  pub held_after : acc < 2 ^ fill → acc / 2 ^ width < 2 ^ (fill - width)
  held_after l =
      let n : fill - width + width ≡ fill = omega arith in
      shr_below acc (fill - width) width (rw n l)
