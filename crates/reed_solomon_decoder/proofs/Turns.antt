-- What a turn of a loop does, against the definitions.
use Rattle.std.proofs.Common.{◌≡◌, ℕ, ◌-◌, ◌<◌, ◌≤◌, List, [], ◌∷◌, length, get_or, take, drop, sym, ap, ◌∙◌, ap₂, refl, ◌⊎◌, inl, inr, arith}
use native.Mathlib.Decide.{dec_lt}
use lib.Bits.{bit_xor, xor_zero_r, xor_assoc}
use Rattle.std.proofs.lemmas.List.{get_or_past, take_rest}
use Rattle.field.proofs.Laws.{mul_zero_r}
use Rattle.field.specs.Field.{mul}
use Rattle.reed_solomon_decoder.specs.Errors.{dot}
use Rattle.reed_solomon_decoder.specs.Kernel.{Plus}

pub dot_turn : (p s p' s' : List ℕ) (a b v sum all : ℕ) → p ≡ a ∷ p' → s ≡ b ∷ s' → v ≡ mul a b
    → bit_xor sum (dot p s) ≡ all → bit_xor (bit_xor sum v) (dot p' s') ≡ all
unfolding dot
dot_turn p s p' s' a b v sum all hp hs is e =
    xor_assoc sum v (dot p' s')
    ∙ ap (bit_xor sum) (ap (λ (y : ℕ). bit_xor y (dot p' s')) is ∙ sym (ap₂ dot hp hs)) ∙ e

dot_nothing : (p : List ℕ) → dot p [] ≡ 0
unfolding dot
dot_nothing [] = refl
dot_nothing (a ∷ p) = refl

pub dot_end : (p s : List ℕ) (sum all : ℕ) → (p ≡ []) ⊎ (s ≡ []) → bit_xor sum (dot p s) ≡ all → sum ≡ all
unfolding dot
dot_end p s sum all none e =
    sym (xor_zero_r sum) ∙ ap (bit_xor sum) (sym nothing) ∙ e
  where
    nothing : dot p s ≡ 0
    nothing = elim none [
      | inl q ↦ ap (λ (l : List ℕ). dot l s) q
      | inr q ↦ ap (dot p) q ∙ dot_nothing p
    ]

pub plus_all : (r v w : List ℕ) (c n : ℕ) → length r ≤ n → length v ≤ n → length w ≤ n
    → ((k : ℕ) → k < n → get_or r k 0 ≡ bit_xor (get_or v k 0) (mul c (get_or w k 0))) → Plus r v c w
plus_all r v w c n lr lv lw h k =
    elim (dec_lt k n) [
      | yes q ↦ h k q
      | no q ↦
          get_or_past r k 0 (omega arith)
          ∙ sym (ap₂ bit_xor (get_or_past v k 0 (omega arith)) (ap (mul c) (get_or_past w k 0 (omega arith)) ∙ mul_zero_r c))
    ]

-- `&s[j..]` as the checker reads it
pub window : (s : List ℕ) (j n : ℕ) → length s ≡ n → take (n - j) (drop j s) ≡ drop j s
window s j n e = ap (λ (m : ℕ). take (m - j) (drop j s)) (sym e) ∙ take_rest s j
