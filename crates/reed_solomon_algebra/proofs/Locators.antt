-- The locators of a line differ, and the line's power sums at them are its values at the powers of α.
use Rattle.std.proofs.Common.{◌≡◌, ℕ, zero, suc, ◌-◌, ◌*◌, ◌<◌, ◌≤◌, List, [], ◌∷◌, length, get_or, sym, refl, ap, ◌∙◌, ap₂, le_of_suc-le-suc, not-suc-le-zero, arith}
use lib.Bits.{bit_xor}
use Rattle.field.specs.Field.{mul, pow}
use Rattle.field.proofs.Powers.{pow_zero, pow_suc, pow_add, pow_two_apart}
use Rattle.reed_solomon_algebra.specs.Terms.{power_sum, Away, Differ, Powers, locators, terms}
use Rattle.reed_solomon_algebra.proofs.Polynomials.{line_value}

pub locators_length : (n : ℕ) → length (locators n) ≡ n
unfolding locators
locators_length zero = refl
locators_length (suc n) = ap suc (locators_length n)

pub locators_at : (n i : ℕ) → i < n → get_or (locators n) i 0 ≡ pow 2 (n - 1 - i)
unfolding locators
locators_at zero i h = absurd (not-suc-le-zero h)
locators_at (suc n) zero h = ap (pow 2) (omega arith)
locators_at (suc n) (suc i) h = locators_at n i (le_of_suc-le-suc h) ∙ ap (pow 2) (omega arith)

locators_away : (m n : ℕ) → n ≤ m → m < 1023 → Away (pow 2 m) (locators n)
unfolding locators
locators_away m zero l h = tt
locators_away m (suc n) l h = (pow_two_apart n m (omega arith) h, locators_away m n (omega arith) h)

pub locators_differ : (n : ℕ) → n ≤ 1023 → Differ (locators n)
unfolding locators
locators_differ zero h = tt
locators_differ (suc n) h = (locators_away n n (omega arith) (omega arith), locators_differ n (omega arith))

pub locators_powers : (m n : ℕ) → n ≤ m → Powers m (locators n)
unfolding locators
locators_powers m zero l = tt
locators_powers m (suc n) l = ((n, omega arith, refl), locators_powers m n (omega arith))

pub pow_pow : (a m n : ℕ) → pow (pow a m) n ≡ pow a (n * m)
pow_pow a m zero = pow_zero (pow a m) ∙ sym (pow_zero a) ∙ ap (pow a) (omega arith)
pow_pow a m (suc n) =
    pow_suc (pow a m) n ∙ ap (mul (pow a m)) (pow_pow a m n) ∙ sym (pow_add a m (n * m)) ∙ ap (pow a) (omega arith)

pub pow_swap : (a m n : ℕ) → pow (pow a m) n ≡ pow (pow a n) m
pow_swap a m n = pow_pow a m n ∙ ap (pow a) (omega arith) ∙ sym (pow_pow a n m)

pub syndrome_value : (j : ℕ) (line : List ℕ) → power_sum j (terms line (locators (length line))) ≡ line_value (pow 2 j) line
unfolding terms locators power_sum line_value
syndrome_value j [] = refl
syndrome_value j (a ∷ line) =
    ap₂ bit_xor (ap (mul a) (pow_swap 2 (length line) j)) (syndrome_value j line)
