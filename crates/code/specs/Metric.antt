-- For proofs: the laws of the distance, and how it is counted.
use Rattle.std.specs.Prelude.{◌≡◌, ℕ, ◌+◌, ◌<◌, ◌≤◌, cond, List, [], ◌∷◌, length, drop, not, ◌==◌, bit_xor, slice_index, refl}
use Rattle.std.proofs.Common.{sym, ap, ◌∙◌, arith}
use Rattle.std.specs.Int.Bits.{xor_assoc, xor_self, xor_zero_r}
use Rattle.std.specs.List.{filter, zip}
use Rattle.std.proofs.lemmas.List.{drop_more, drop_all}
use Rattle.std.proofs.lemmas.Bool.Decides.{nat_tests}
use Rattle.code.specs.Distance.{distance, plus, DistanceLaws}

pub distance_self : (x : List ℕ) → distance x x ≡ 0
unfolding distance
distance_self [] = refl
distance_self (a ∷ x) = let i = distance_self x in grind (arith, nat_tests)

pub distance_zero : (x y : List ℕ) → length x ≡ length y → distance x y ≡ 0 → x ≡ y
unfolding distance
distance_zero [] [] l d = refl
distance_zero [] (b ∷ y) l d = cc
distance_zero (a ∷ x) [] l d = cc
distance_zero (a ∷ x) (b ∷ y) l d =
    let h : a ≡ b = grind (arith, nat_tests) in
    let i : x ≡ y = distance_zero x y (grind (arith, nat_tests)) (grind (arith, nat_tests)) in
    cc

pub distance_comm : (x y : List ℕ) → distance x y ≡ distance y x
unfolding distance
distance_comm [] [] = refl
distance_comm [] (b ∷ y) = refl
distance_comm (a ∷ x) [] = refl
distance_comm (a ∷ x) (b ∷ y) = let i = distance_comm x y in grind (arith, nat_tests)

pub distance_triangle : (x y z : List ℕ) → length x ≡ length y → length y ≡ length z → distance x z ≤ distance x y + distance y z
unfolding distance
distance_triangle [] y z l m = grind arith
distance_triangle (a ∷ x) [] z l m = grind arith
distance_triangle (a ∷ x) (b ∷ y) [] l m = grind arith
distance_triangle (a ∷ x) (b ∷ y) (c ∷ z) l m =
    let i = distance_triangle x y z (grind arith) (grind arith) in grind (arith, nat_tests)

-- a number added twice is gone
pub xor_twice : (x k : ℕ) → bit_xor (bit_xor x k) k ≡ x
xor_twice x k = xor_assoc x k k ∙ ap (bit_xor x) (xor_self k) ∙ xor_zero_r x

same_test : (a b k : ℕ) → (bit_xor a k == bit_xor b k) ≡ (a == b)
same_test a b k =
    let p = xor_twice a k in
    let q = xor_twice b k in
    let f : bit_xor a k ≡ bit_xor b k → a ≡ b = λ e. sym p ∙ ap (λ x. bit_xor x k) e ∙ q in
    let h : a ≡ b → bit_xor a k ≡ bit_xor b k = ap (λ x. bit_xor x k) in
    grind (arith, nat_tests)

pub distance_plus : (x y z : List ℕ) → distance (plus x z) (plus y z) ≡ distance x y
unfolding distance plus
distance_plus [] y z = refl
distance_plus (a ∷ x) [] [] = refl
distance_plus (a ∷ x) [] (c ∷ z) = refl
distance_plus (a ∷ x) (b ∷ y) [] = refl
distance_plus (a ∷ x) (b ∷ y) (c ∷ z) = let e = same_test a b c in let i = distance_plus x y z in cc

pub distance_laws : DistanceLaws
distance_laws = record {
  equal_zero = distance_self;
  zero_equal = distance_zero;
  symmetric = distance_comm;
  triangle = distance_triangle;
  sum_unmoved = distance_plus;
}

-- the pairs whose numbers differ, counted
pub distance_count : (x y : List ℕ) → length (filter (λ (p : ℕ × ℕ). not (p.0 == p.1)) (zip x y)) ≡ distance x y
unfolding distance
distance_count [] y = refl
distance_count (a ∷ x) [] = refl
distance_count (a ∷ x) (b ∷ y) = let i = distance_count x y in grind (arith, nat_tests)

-- one more place that differs, or does not
pub distance_more : (x y : List ℕ) (i : ℕ) → i < length x → i < length y
    → distance (drop i x) (drop i y) ≡ cond (slice_index x i == slice_index y i) 0 1 + distance (drop (i + 1) x) (drop (i + 1) y)
unfolding distance
distance_more x y i h k = let p = drop_more x i 0 h in let q = drop_more y i 0 k in cc

pub distance_all : (x y : List ℕ) (i : ℕ) → length x ≤ i → distance (drop i x) (drop i y) ≡ 0
unfolding distance
distance_all x y i h = ap (λ z. distance z (drop i y)) (drop_all i x h)
