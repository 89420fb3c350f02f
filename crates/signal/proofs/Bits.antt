-- The TUI of bytes: how many there are, and what each is.
use Rattle.std.proofs.Common.{◌≡◌, ℕ, zero, suc, ◌-◌, ◌*◌, ◌/◌, ◌%◌, ◌^◌, ◌<◌, ◌≤◌, List, [], ◌∷◌, ◌++◌, length, get_or, take, sym, refl, ap, ◌∙◌, inl, inr, pow-suc, one-add, arith, length-append, length-take-le, get_or-take, ext_get_or}
use native.Mathlib.Nat.{zero-div}
use Rattle.std.proofs.lemmas.Nat.{shr-shr}
use Rattle.std.proofs.lemmas.List.{get_or_append_left, get_or-append_right, get_or_past}
use Rattle.std.proofs.lemmas.Bool.{cases_lt}
use Rattle.signal.specs.Signal.{least_first, bits_of}

pub take_same : (xs ys : List ℕ) (n : ℕ) → n ≤ length xs → n ≤ length ys → ((k : ℕ) → k < n → get_or xs k 0 ≡ get_or ys k 0) → take n xs ≡ take n ys
take_same xs ys n h l same =
    let p = length-take-le n xs h in
    let q = length-take-le n ys l in
    ext_get_or 0 (take n xs) (take n ys) (p ∙ sym q) (λ k b. let b2 : k < n = omega arith in get_or-take n xs k 0 b2 ∙ same k b2 ∙ sym (get_or-take n ys k 0 b2))

pub length_least : (n x : ℕ) → length (least_first n x) ≡ n
unfolding least_first
length_least zero x = refl
length_least (suc n) x = ap suc (length_least n (x / 2))

pub get_or_least : (n x i : ℕ) → i < n → get_or (least_first n x) i 0 ≡ x / 2 ^ i % 2
unfolding least_first
get_or_least zero x i h = absurd (omega arith)
get_or_least (suc n) x zero h = omega arith
get_or_least (suc n) x (suc i) h =
    let below = get_or_least n (x / 2) i (omega arith) in
    let one : x / 2 / 2 ^ i ≡ x / 2 ^ suc i = shr-shr x 1 i ∙ ap (λ (k : ℕ). x / 2 ^ k) (one-add i) in
    below ∙ ap (λ (y : ℕ). y % 2) one

-- numbers of n bits with the same bits are the same
pub same_bits : (n x y : ℕ) → x < 2 ^ n → y < 2 ^ n → ((i : ℕ) → i < n → x / 2 ^ i % 2 ≡ y / 2 ^ i % 2) → x ≡ y
same_bits zero x y hx hy e = omega arith
same_bits (suc n) x y hx hy e =
    let p = pow-suc 2 n in
    let first : x % 2 ≡ y % 2 = (let z = e 0 (omega arith) in omega arith) in
    let shifted : (z i : ℕ) → z / 2 / 2 ^ i ≡ z / 2 ^ suc i = λ z i. shr-shr z 1 i ∙ ap (λ (k : ℕ). z / 2 ^ k) (one-add i) in
    let rest : x / 2 ≡ y / 2 =
    same_bits n (x / 2) (y / 2) (omega arith) (omega arith)
    (λ i h. ap (λ (w : ℕ). w % 2) (shifted x i) ∙ e (suc i) (omega arith) ∙ sym (ap (λ (w : ℕ). w % 2) (shifted y i))) in
    omega arith

pub same_least : (n x y : ℕ) → x < 2 ^ n → y < 2 ^ n → least_first n x ≡ least_first n y → x ≡ y
same_least n x y hx hy e =
    same_bits n x y hx hy (λ i h. sym (get_or_least n x i h) ∙ ap (λ (l : List ℕ). get_or l i 0) e ∙ get_or_least n y i h)

pub length_bits : (bs : List ℕ) → length (bits_of bs) ≡ 8 * length bs
unfolding bits_of
length_bits [] = refl
length_bits (b ∷ bs) = let i = length_bits bs in let e = length_least 8 b in length-append (least_first 8 b) (bits_of bs) ∙ omega arith

in_first : (b : ℕ) (bs : List ℕ) (i : ℕ) → i < 8 → get_or (least_first 8 b ++ bits_of bs) i 0 ≡ get_or (b ∷ bs) (i / 8) 0 / 2 ^ (i % 8) % 2
in_first b bs i h =
    let q : i / 8 ≡ 0 = omega arith in
    let r : i % 8 ≡ i = omega arith in
    let l : i < length (least_first 8 b) = omega (arith, length_least 8 b) in
    get_or_append_left (least_first 8 b) (bits_of bs) 0 i l ∙ get_or_least 8 b i h ∙ rw (q, r)

in_later : (b : ℕ) (bs : List ℕ) (i : ℕ) → 8 ≤ i → get_or (bits_of bs) (i - 8) 0 ≡ get_or bs ((i - 8) / 8) 0 / 2 ^ ((i - 8) % 8) % 2
    → get_or (least_first 8 b ++ bits_of bs) i 0 ≡ get_or (b ∷ bs) (i / 8) 0 / 2 ^ (i % 8) % 2
in_later b bs i h below =
    let q : i / 8 ≡ suc ((i - 8) / 8) = omega arith in
    let r : i % 8 ≡ (i - 8) % 8 = omega arith in
    get_or-append_right (least_first 8 b) (bits_of bs) 8 i 0 (length_least 8 b) h ∙ below ∙ rw (q, r)

pub get_or_bits : (bs : List ℕ) (i : ℕ) → get_or (bits_of bs) i 0 ≡ get_or bs (i / 8) 0 / 2 ^ (i % 8) % 2
unfolding bits_of
get_or_bits [] i = ap (λ (y : ℕ). y % 2) (sym (zero-div (2 ^ (i % 8))))
get_or_bits (b ∷ bs) i = elim (cases_lt i 8) [ inl h ↦ in_first b bs i h | inr h ↦ in_later b bs i h (get_or_bits bs (i - 8)) ]

pub bits_past : (bs : List ℕ) (i : ℕ) → length bs ≤ i / 8 → get_or (bits_of bs) i 0 ≡ 0
bits_past bs i h = get_or_past (bits_of bs) i 0 (omega (arith, length_bits bs))
