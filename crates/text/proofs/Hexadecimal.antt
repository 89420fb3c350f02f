-- Digits to a number and back.
use Rattle.std.proofs.Common.{◌≡◌, ℕ, zero, suc, ◌+◌, ◌-◌, ◌*◌, ◌/◌, ◌%◌, ◌^◌, ◌<◌, ◌≤◌, Bool, true, false, cond, ◌&&◌, leb, List, [], ◌∷◌, length, is_some, Some, None, fold, Option, unwrap_or, sym, refl, ap, ◌∙◌, inl, inr, add_assoc, mul_assoc, mul_comm, add-mul, pow-suc, arith}
use lib.Arith.{mod-mul, digits_div, digits_lt}
use Rattle.std.proofs.lemmas.Bool.Decides.{nat_tests}
use Rattle.std.proofs.lemmas.Bool.{cases_lt}
use Rattle.text.specs.Text.{hex_digit, value}
use Rattle.text.specs.Laws.{digit_byte, hex}
use Rattle.text.proofs.Numbers.{digit_lt}

abbrev pub digit_of : ℕ → ℕ
digit_of b = unwrap_or (hex_digit b) 0

abbrev pub onto : ℕ → List ℕ → ℕ
onto a ds = fold (λ v b. v * 16 + unwrap_or (hex_digit b) 0) a ds

abbrev pub AllDigits : List ℕ → Type 0
AllDigits [] = Unit {0}
AllDigits (b ∷ bs) = (is_some (hex_digit b) ≡ true) × AllDigits bs

-- one digit

chosen : (s t : Bool) (x y z : Option ℕ) → s ≡ true → cond s x (cond t y z) ≡ x
chosen true t x y z e = refl
chosen false t x y z e = let w : ◌≡◌ {A = ℕ} 0 1 = cc in absurd (omega arith)

second : (s t : Bool) (x y z : Option ℕ) → s ≡ false → t ≡ true → cond s x (cond t y z) ≡ y
second false true x y z e f = refl
second false false x y z e f = let w : ◌≡◌ {A = ℕ} 0 1 = cc in absurd (omega arith)
second true t x y z e f = let w : ◌≡◌ {A = ℕ} 0 1 = cc in absurd (omega arith)

low : (d : ℕ) → d < 10 → hex_digit (48 + d) ≡ Some d
low d l =
    let e : (leb 48 (48 + d) && leb (48 + d) 57) ≡ true = grind (arith, nat_tests) in
    let f : 48 + d - 48 ≡ d = omega arith in
    chosen (leb 48 (48 + d) && leb (48 + d) 57) (leb 97 (48 + d) && leb (48 + d) 102) _ _ _ e ∙ ap Some f

high : (d : ℕ) → 10 ≤ d → d < 16 → hex_digit (87 + d) ≡ Some d
high d k l =
    let e : (leb 48 (87 + d) && leb (87 + d) 57) ≡ false = grind (arith, nat_tests) in
    let g : (leb 97 (87 + d) && leb (87 + d) 102) ≡ true = grind (arith, nat_tests) in
    let f : 87 + d - 87 ≡ d = omega arith in
    second (leb 48 (87 + d) && leb (87 + d) 57) (leb 97 (87 + d) && leb (87 + d) 102) _ _ _ e g ∙ ap Some f

pub digit_back : (d : ℕ) → d < 16 → hex_digit (digit_byte d) ≡ Some d
digit_back d h =
    elim (cases_lt d 10) [
      | inl l ↦ let e : digit_byte d ≡ 48 + d = grind (arith, nat_tests) in ap hex_digit e ∙ low d l
      | inr l ↦ let e : digit_byte d ≡ 87 + d = grind (arith, nat_tests) in ap hex_digit e ∙ high d l h
    ]

forth_cases : (s t : Bool) (b x y : ℕ) → (s ≡ true → digit_byte x ≡ b) → (t ≡ true → digit_byte y ≡ b) → is_some (cond s (Some x) (cond t (Some y) None)) ≡ true
    → digit_byte (unwrap_or (cond s (Some x) (cond t (Some y) None)) 0) ≡ b
forth_cases true t b x y h k i = h refl
forth_cases false true b x y h k i = k refl
forth_cases false false b x y h k i = let z : ◌≡◌ {A = ℕ} 0 1 = cc in absurd (omega arith)

pub digit_forth : (b : ℕ) → is_some (hex_digit b) ≡ true → digit_byte (digit_of b) ≡ b
digit_forth b = forth_cases (leb 48 b && leb b 57) (leb 97 b && leb b 102) b (b - 48) (b - 87) (λ e. grind (arith, nat_tests)) (λ e. grind (arith, nat_tests))

-- many digits

-- one more digit d in front of n, where c is 16 ^ n
sums : (a d c r : ℕ) → (a * 16 + d) * c + r ≡ a * (16 * c) + (d * c + r)
sums a d c r = ap (λ x. x + r) (add-mul (a * 16) d c ∙ ap (λ x. x + d * c) (mul_assoc a 16 c)) ∙ add_assoc (a * (16 * c)) (d * c) r

pub length_hex : (n x : ℕ) → length (hex n x) ≡ n
unfolding hex
length_hex zero x = refl
length_hex (suc n) x = ap suc (length_hex n x)

sixteens : (n : ℕ) → 0 < 16 ^ n
sixteens zero = omega arith
sixteens (suc n) = let i = sixteens n in rw (pow-suc 16 n) (omega arith)

pub onto_hex : (a n x : ℕ) → onto a (hex n x) ≡ a * 16 ^ n + x % 16 ^ n
unfolding hex
onto_hex a zero x = omega arith
onto_hex a (suc n) x =
    let d : ℕ = x / 16 ^ n % 16 in
    let l : d < 16 = omega arith in
    let e : digit_of (digit_byte d) ≡ d = ap (λ o. unwrap_or o 0) (digit_back d l) in
    let i = onto_hex (a * 16 + d) n x in
    let m = mod-mul x {m = 16} {c = 16 ^ n} (omega arith) (sixteens n) in
    let p : 16 ^ suc n ≡ 16 * 16 ^ n = pow-suc 16 n ∙ mul_comm (16 ^ n) 16 in
    ap (λ k. onto (a * 16 + k) (hex n x)) e ∙ i ∙ sums a d (16 ^ n) (x % 16 ^ n) ∙ ap (λ k. a * (16 * 16 ^ n) + k) (sym m) ∙ ap (λ k. a * k + x % k) (sym p)

pub onto_split : (a : ℕ) (ds : List ℕ) → onto a ds ≡ a * 16 ^ length ds + value ds
onto_split a [] = omega arith
onto_split a (b ∷ ds) =
    let d : ℕ = digit_of b in
    let i = onto_split (a * 16 + d) ds in
    let j = onto_split d ds in
    let z : onto (0 * 16 + d) ds ≡ onto d ds = ap (λ k. onto k ds) (omega arith) in
    let p : 16 ^ suc (length ds) ≡ 16 * 16 ^ length ds = pow-suc 16 (length ds) ∙ mul_comm (16 ^ length ds) 16 in
    i ∙ sums a d (16 ^ length ds) (value ds) ∙ ap (λ k. a * (16 * 16 ^ length ds) + k) (sym (z ∙ j)) ∙ ap (λ k. a * k + value (b ∷ ds)) (sym p)

pub value_lt : (ds : List ℕ) → value ds < 16 ^ length ds
value_lt [] = omega arith
value_lt (b ∷ ds) =
    let d : ℕ = digit_of b in
    let j = onto_split d ds in
    let z : value (b ∷ ds) ≡ d * 16 ^ length ds + value ds = ap (λ k. onto k ds) (omega arith) ∙ j in
    let h = digits_lt (digit_lt b) (value_lt ds) in
    let p : 16 ^ suc (length ds) ≡ 16 * 16 ^ length ds = pow-suc 16 (length ds) ∙ mul_comm (16 ^ length ds) 16 in
    omega arith

pub hex_onto : (a : ℕ) (ds : List ℕ) → AllDigits ds → hex (length ds) (onto a ds) ≡ ds
unfolding hex
hex_onto a [] v = refl
hex_onto a (b ∷ ds) v =
    let d : ℕ = digit_of b in
    let s = onto_split (a * 16 + d) ds in
    let q : onto (a * 16 + d) ds / 16 ^ length ds ≡ a * 16 + d = ap (λ x. x / 16 ^ length ds) s ∙ digits_div (a * 16 + d) (value_lt ds) in
    let l = digit_lt b in
    let r : onto (a * 16 + d) ds / 16 ^ length ds % 16 ≡ d = ap (λ x. x % 16) q ∙ omega arith in
    let e : digit_byte (onto (a * 16 + d) ds / 16 ^ length ds % 16) ≡ b = ap digit_byte r ∙ digit_forth b v.0 in
    let i = hex_onto (a * 16 + d) ds v.1 in
    cc
