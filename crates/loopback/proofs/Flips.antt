-- A line with some symbols flipped: as long, of symbols, and just so far away.
use Rattle.std.proofs.Common.{◌≡◌, ℕ, zero, suc, ◌+◌, ◌<◌, ◌≤◌, cond, List, [], ◌∷◌, ◌++◌, length, get_or, take, drop, set, sym, refl, ap, ◌∙◌, arith}
use lib.Bits.{bit_xor, xor_assoc, xor_self, xor_lt}
use Rattle.std.proofs.lemmas.Bool.{ne_eqb}
use Rattle.symbols.specs.Symbols.{Symbol, Symbols}
use Rattle.code.specs.Distance.{distance}
use Rattle.code.specs.Metric.{distance_self}
use Rattle.loopback.specs.Damage.{flipped}

-- one symbol more
pub flipped_more : (n : ℕ) (xs : List ℕ) → n < length xs → set (flipped n xs) n (bit_xor (get_or (flipped n xs) n 0) 1) ≡ flipped (n + 1) xs
unfolding flipped
flipped_more n [] h = absurd (omega arith)
flipped_more zero (x ∷ xs) h = refl
flipped_more (suc n) (x ∷ xs) h =
    let e : suc n + 1 ≡ suc (n + 1) = omega arith in
    ap (λ ys. bit_xor x 1 ∷ ys) (flipped_more n xs (omega arith)) ∙ ap (λ k. flipped k (x ∷ xs)) (sym e)

-- the first n symbols flipped, and the others behind them
pub flipped_front : (n : ℕ) (xs : List ℕ) → n ≤ length xs → flipped n (take n xs) ++ drop n xs ≡ flipped n xs
unfolding flipped
flipped_front zero xs h = refl
flipped_front (suc n) [] h = refl
flipped_front (suc n) (x ∷ xs) h = ap (λ ys. bit_xor x 1 ∷ ys) (flipped_front n xs (omega arith))

pub length_flipped : (n : ℕ) (xs : List ℕ) → length (flipped n xs) ≡ length xs
unfolding flipped
length_flipped zero xs = refl
length_flipped (suc n) [] = refl
length_flipped (suc n) (x ∷ xs) = ap suc (length_flipped n xs)

in_front : (y : ℕ) (ys : List ℕ) → Symbol y → Symbols ys → Symbols (y ∷ ys)
in_front y ys h s zero l = h
in_front y ys h s (suc k) l = s k (omega arith)

pub symbols_flipped : (n : ℕ) (xs : List ℕ) → Symbols xs → Symbols (flipped n xs)
unfolding flipped
symbols_flipped zero xs s = s
symbols_flipped (suc n) [] s = s
symbols_flipped (suc n) (x ∷ xs) s = in_front (bit_xor x 1) (flipped n xs) (xor_lt 10 x 1 (s 0 (omega arith)) (omega arith)) (symbols_flipped n xs (λ k h. s (suc k) (omega arith)))

flip_differs : (x : ℕ) → bit_xor x 1 ≡ x → ⊥
flip_differs x e =
    let p : bit_xor x (bit_xor x 1) ≡ bit_xor 0 1 = sym (xor_assoc x x 1) ∙ ap (λ y. bit_xor y 1) (xor_self x) in
    let q : bit_xor x (bit_xor x 1) ≡ 0 = ap (bit_xor x) e ∙ xor_self x in
    let r : ◌≡◌ {A = ℕ} 0 1 = sym q ∙ p in
    omega arith

pub distance_flipped : (n : ℕ) (xs : List ℕ) → n ≤ length xs → distance (flipped n xs) xs ≡ n
unfolding distance flipped
distance_flipped zero xs h = distance_self xs
distance_flipped (suc n) [] h = absurd (omega arith)
distance_flipped (suc n) (x ∷ xs) h =
    let i = distance_flipped n xs (omega arith) in
    let e = ne_eqb (bit_xor x 1) x (flip_differs x) in
    ap (λ t. cond t 0 1 + distance (flipped n xs) xs) e ∙ omega arith
