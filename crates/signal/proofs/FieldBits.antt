-- The bits of a field, from bit 15 down.
use Rattle.std.proofs.Common.{◌≡◌, ℕ, zero, suc, ◌+◌, ◌-◌, ◌*◌, ◌/◌, ◌%◌, ◌^◌, ◌<◌, List, [], ◌∷◌, ◌++◌, length, get_or, sym, refl, ap, ◌∙◌, one-add, arith}
use Rattle.std.proofs.lemmas.Nat.{shr-shr}
use Rattle.signal.specs.Signal.{highest_first}
use Rattle.signal.proofs.Bits.{same_bits}

pub length_highest : (n x : ℕ) → length (highest_first n x) ≡ n
unfolding highest_first
length_highest zero x = refl
length_highest (suc n) x = ap suc (length_highest n x)

pub get_or_highest : (n x k : ℕ) → k < n → get_or (highest_first n x) k 0 ≡ x / 2 ^ (n - 1 - k) % 2
unfolding highest_first
get_or_highest zero x k h = absurd (omega arith)
get_or_highest (suc n) x zero h = let e : n ≡ suc n - 1 - 0 = omega arith in ap (λ (j : ℕ). x / 2 ^ j % 2) e
get_or_highest (suc n) x (suc k) h = let e : n - 1 - k ≡ suc n - 1 - suc k = omega arith in get_or_highest n x k (omega arith) ∙ ap (λ (j : ℕ). x / 2 ^ j % 2) e

-- one more bit at the end
pub highest_push : (n x b : ℕ) → b < 2 → highest_first (suc n) (x * 2 + b) ≡ highest_first n x ++ b ∷ []
unfolding highest_first
highest_push zero x b h = let e : (x * 2 + b) / 1 % 2 ≡ b = omega arith in ap (λ (y : ℕ). y ∷ []) e
highest_push (suc n) x b h =
    let two : (x * 2 + b) / 2 ≡ x = omega arith in
    let one : (x * 2 + b) / 2 ^ suc n ≡ x / 2 ^ n = ap (λ (k : ℕ). (x * 2 + b) / 2 ^ k) (sym (one-add n)) ∙ sym (shr-shr (x * 2 + b) 1 n) ∙ ap (λ (y : ℕ). y / 2 ^ n) two in
    let rest = highest_push n x b h in
    ap (λ (y : ℕ). y % 2 ∷ highest_first (suc n) (x * 2 + b)) one ∙ ap (λ (l : List ℕ). x / 2 ^ n % 2 ∷ l) rest

-- two fields of the same bits are the same
pub same_highest : (n x y : ℕ) → x < 2 ^ n → y < 2 ^ n → highest_first n x ≡ highest_first n y → x ≡ y
same_highest n x y hx hy e =
    same_bits n x y hx hy (λ i h.
    let k : n - 1 - i < n = omega arith in
    let back : n - 1 - (n - 1 - i) ≡ i = omega arith in
    let at = sym (get_or_highest n x (n - 1 - i) k) ∙ ap (λ (l : List ℕ). get_or l (n - 1 - i) 0) e ∙ get_or_highest n y (n - 1 - i) k in
    rw back at at)
