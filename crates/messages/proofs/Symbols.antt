-- Symbols are the digits of a message's number.
use Rattle.std.proofs.Common.{◌≡◌, ℕ, zero, suc, ◌+◌, ◌*◌, ◌/◌, ◌%◌, ◌^◌, ◌<◌, List, [], ◌∷◌, length, refl, ap, pow-suc, arith}
use Rattle.symbols.specs.Symbols.{Symbols}
use Rattle.blocks.specs.Packed.{packed}
use Rattle.messages.specs.Numbers.{digits}
use Rattle.messages.proofs.Laws.{small_tail}

pub digits_packed : (xs : List ℕ) (n : ℕ) → length xs ≡ n → Symbols xs → digits n (packed 10 xs) ≡ xs
unfolding digits
digits_packed [] zero e s = refl
digits_packed [] (suc n) e s = absurd (omega arith)
digits_packed (x ∷ xs) zero e s = absurd (omega arith)
digits_packed (x ∷ xs) (suc n) e s =
    let h : x < 1024 = s 0 (omega arith) in
    let low : (x + 2 ^ 10 * packed 10 xs) % 2 ^ 10 ≡ x = omega arith in
    let high : (x + 2 ^ 10 * packed 10 xs) / 2 ^ 10 ≡ packed 10 xs = omega arith in
    let i = digits_packed xs n (omega arith) (small_tail x xs s) in
    rw (low, high, i)

pub digits_long : (n x : ℕ) → length (digits n x) ≡ n
unfolding digits
digits_long zero x = refl
digits_long (suc n) x = ap suc (digits_long n (x / 2 ^ 10))

pub digits_symbols : (n x : ℕ) → Symbols (digits n x)
unfolding digits
digits_symbols zero x k h = absurd (omega arith)
digits_symbols (suc n) x zero h = omega arith
digits_symbols (suc n) x (suc k) h = digits_symbols n (x / 2 ^ 10) k (omega arith)

pub packed_digits : (n x : ℕ) → x < 1024 ^ n → packed 10 (digits n x) ≡ x
unfolding digits
packed_digits zero x h = omega arith
packed_digits (suc n) x h =
    let p = pow-suc 1024 n in
    let i = packed_digits n (x / 2 ^ 10) (omega arith) in
    rw i (omega arith)
