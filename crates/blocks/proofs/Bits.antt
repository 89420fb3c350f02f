-- Fields of bits: what lies above, and numbers that agree in every bit.
use Rattle.std.proofs.Common.{◌≡◌, ℕ, zero, suc, ◌+◌, ◌-◌, ◌*◌, ◌/◌, ◌%◌, ◌^◌, ◌<◌, ◌≤◌, sym, ap, ◌∙◌, pow-suc, arith}
use Rattle.std.proofs.lemmas.Nat.{shr-shr, field_of, mod-pow-add}
use Rattle.blocks.specs.Blocks.{field, bit}

-- what stands above the lowest k bits
pub field_above : (k x at n : ℕ) → field x (k + at) n ≡ field (x / 2 ^ k) at n
field_above k x at n = ap (λ (z : ℕ). z % 2 ^ n) (sym (shr-shr x k at))

pub field_onto : (k x y at n : ℕ) → (x + 2 ^ k * y) / 2 ^ k ≡ y → field (x + 2 ^ k * y) (k + at) n ≡ field y at n
field_onto k x y at n e = field_above k (x + 2 ^ k * y) at n ∙ ap (λ (z : ℕ). field z at n) e

pub bit_suc : (m i : ℕ) → bit m (suc i) ≡ bit (m / 2) i
bit_suc m i = let e : suc i ≡ 1 + i = omega arith in rw e (field_above 1 m i 1)

-- the lowest four bits
pub low_four : (y i : ℕ) → i < 4 → bit (y % 16) i ≡ bit y i
low_four y zero h = omega arith
low_four y (suc zero) h = omega arith
low_four y (suc (suc zero)) h = omega arith
low_four y (suc (suc (suc zero))) h = omega arith
low_four y (suc (suc (suc (suc i)))) h = absurd (omega arith)

-- numbers of n bits that agree in every bit are equal
pub same_bits : (n x y : ℕ) → x < 2 ^ n → y < 2 ^ n → ((i : ℕ) → i < n → bit x i ≡ bit y i) → x ≡ y
same_bits zero x y h k e = omega arith
same_bits (suc n) x y h k e =
    let p = pow-suc 2 n in
    let low = e 0 (omega arith) in
    let high = same_bits n (x / 2) (y / 2) (omega arith) (omega arith) (λ i l. sym (bit_suc x i) ∙ e (suc i) (omega arith) ∙ bit_suc y i) in
    omega arith

low_kept : (z j : ℕ) → z % 2 ^ (j + 1) % 2 ≡ z % 2
low_kept z j = let p = mod-pow-add z j 1 in let q : ℕ = z / 2 ^ 1 % 2 ^ j in omega arith

-- the lowest n bits keep bit r
bit_low : (y n r : ℕ) → r < n → bit (y % 2 ^ n) r ≡ bit y r
bit_low y n r h =
    let j : ℕ = n - (r + 1) in
    let e : n ≡ j + 1 + r = omega arith in
    let f : y % 2 ^ n / 2 ^ r ≡ y / 2 ^ r % 2 ^ (j + 1) = ap (λ (k : ℕ). y % 2 ^ k / 2 ^ r) e ∙ field_of y (j + 1) r in
    ap (λ (z : ℕ). z % 2) f ∙ low_kept (y / 2 ^ r) j

-- bit r of a field is a bit of the number
pub field_bit : (b at n r : ℕ) → r < n → bit b (at + r) ≡ bit (field b at n) r
field_bit b at n r h = field_above at b r 1 ∙ sym (bit_low (b / 2 ^ at) n r h)

-- two numbers with the same field have the same bits there
pub same_field : (x y at n i : ℕ) → at ≤ i → i < at + n → field x at n ≡ field y at n → bit x i ≡ bit y i
same_field x y at n i h l e =
    let s : i ≡ at + (i - at) = omega arith in
    rw s (field_bit x at n (i - at) (omega arith) ∙ ap (λ (z : ℕ). bit z (i - at)) e ∙ sym (field_bit y at n (i - at) (omega arith)))
