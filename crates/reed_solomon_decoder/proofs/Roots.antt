-- A polynomial with as many distinct roots as coefficients is zero.
use Rattle.std.proofs.Common.{◌≡◌, ℕ, zero, suc, ◌<◌, ◌≤◌, List, [], ◌∷◌, length, sym, refl, ap, ◌∙◌, subst, ap₂, inl, inr, le_of_suc-le-suc, not-suc-le-zero}
use lib.Bits.{bit_xor, xor_lt, xor_self, xor_assoc, xor_comm}
use Rattle.field.proofs.Linear.{xor_zero_eq, xor_cancel}
use Rattle.field.proofs.Laws.{mul_xor_r, mul_xor_l, mul_zero_r, mul_left_comm}
use Rattle.field.proofs.Powers.{mul_zero}
use Rattle.reed_solomon_decoder.proofs.Weighing.{value_lt}
use Rattle.field.specs.Field.{mul}
use Rattle.reed_solomon_algebra.specs.Polynomials.{Elements, value}
use Rattle.reed_solomon_algebra.specs.Terms.{Away, Differ}
use Rattle.reed_solomon_decoder.specs.Errors.{Null, Roots}

-- the quotient by y - x of a polynomial with the higher coefficients cs: the values of their tails at x
divide : ℕ → List ℕ → List ℕ
divide x [] = []
divide x (c ∷ cs) = value x (c ∷ cs) ∷ divide x cs

divide_length : (x : ℕ) (cs : List ℕ) → length (divide x cs) ≡ length cs
unfolding divide
divide_length x [] = refl
divide_length x (c ∷ cs) = ap suc (divide_length x cs)

elements_tail : (c : ℕ) (cs : List ℕ) → Elements (c ∷ cs) → Elements cs
elements_tail c cs b k = b (suc k)

divide_elements : (x : ℕ) (cs : List ℕ) → Elements cs → Elements (divide x cs)
unfolding divide
divide_elements x [] b k = b k
divide_elements x (c ∷ cs) b zero = value_lt (c ∷ cs) x b
divide_elements x (c ∷ cs) b (suc k) = divide_elements x cs (elements_tail c cs b) k

xor_drop : (a b c : ℕ) → bit_xor a (bit_xor (bit_xor b a) c) ≡ bit_xor b c
xor_drop a b c =
    ap (bit_xor a) (ap (λ (z : ℕ). bit_xor z c) (xor_comm b a) ∙ xor_assoc a b c) ∙ xor_cancel a (bit_xor b c)

xor_merge : (c b a : ℕ) → bit_xor (bit_xor c b) (bit_xor b a) ≡ bit_xor c a
xor_merge c b a = xor_assoc c b (bit_xor b a) ∙ ap (bit_xor c) (xor_cancel b a)

xor_move : (a b m : ℕ) → a ≡ bit_xor b m → m ≡ bit_xor b a
xor_move a b m e = sym (xor_cancel b m) ∙ ap (bit_xor b) (sym e)

-- y cs(y) = x cs(x) + (y - x) q(y)
division : (x y : ℕ) (cs : List ℕ) → mul y (value y cs) ≡ bit_xor (mul x (value x cs)) (mul (bit_xor y x) (value y (divide x cs)))
unfolding divide value
division x y [] = mul_zero_r y ∙ sym (ap₂ bit_xor (mul_zero_r x) (mul_zero_r (bit_xor y x)))
division x y (c ∷ cs) =
    let a = value y cs in
    let b = value x cs in
    let d = value y (divide x cs) in
    let e = bit_xor c (mul x b) in
    let ih : mul (bit_xor y x) d ≡ bit_xor (mul x b) (mul y a) = xor_move (mul y a) (mul x b) (mul (bit_xor y x) d) (division x y cs) in
    let right : mul (bit_xor y x) (bit_xor e (mul y d)) ≡ bit_xor (bit_xor (mul y e) (mul x e)) (mul y (bit_xor (mul x b) (mul y a))) =
    mul_xor_r (bit_xor y x) e (mul y d)
    ∙ ap₂ bit_xor (mul_xor_l y x e) (mul_left_comm (bit_xor y x) y d ∙ ap (mul y) ih) in
    sym (ap (bit_xor (mul x e)) right
    ∙ xor_drop (mul x e) (mul y e) (mul y (bit_xor (mul x b) (mul y a)))
    ∙ sym (mul_xor_r y e (bit_xor (mul x b) (mul y a)))
    ∙ ap (mul y) (xor_merge c (mul x b) (mul y a)))

undivide : (x : ℕ) (cs : List ℕ) → Null (divide x cs) → (value x cs ≡ 0) × Null cs
unfolding divide value
undivide x [] z = (refl, λ k. refl)
undivide x (c ∷ cs) z =
    let ih = undivide x cs (λ k. z (suc k)) in
    let c0 : c ≡ 0 = xor_zero_eq c (mul x (value x cs)) (z 0) ∙ ap (mul x) ih.0 ∙ mul_zero_r x in
    (z 0, spread c0 ih.1)
  where
    spread : c ≡ 0 → Null cs → Null (c ∷ cs)
    spread e n zero = e
    spread e n (suc k) = n k

quotient_roots : (c : ℕ) (cs : List ℕ) (x : ℕ) → Elements cs → x < 1024 → value x (c ∷ cs) ≡ 0
    → (ys : List ℕ) → Away x ys → Roots (c ∷ cs) ys → Roots (divide x cs) ys
unfolding value
quotient_roots c cs x b hx rx [] a r = tt
quotient_roots c cs x b hx rx (y ∷ ys) a r =
    let same : mul y (value y cs) ≡ mul x (value x cs) =
    sym (xor_zero_eq c (mul y (value y cs)) r.1) ∙ xor_zero_eq c (mul x (value x cs)) rx in
    let gone : mul (bit_xor y x) (value y (divide x cs)) ≡ 0 =
    xor_move (mul y (value y cs)) (mul x (value x cs)) (mul (bit_xor y x) (value y (divide x cs))) (division x y cs)
    ∙ ap (bit_xor (mul x (value x cs))) same ∙ xor_self (mul x (value x cs)) in (
      r.0,
      elim (mul_zero (bit_xor y x) (value y (divide x cs)) (xor_lt 10 y x r.0 hx) (value_lt (divide x cs) y (divide_elements x cs b)) gone)
          [ inl z ↦ absurd (a.0 (xor_zero_eq y x z)) | inr z ↦ z ],
      quotient_roots c cs x b hx rx ys a.1 r.2,
    )

-- A polynomial with no more coefficients than distinct roots is zero.
pub roots_null : (xs p : List ℕ) → Elements p → Differ xs → Roots p xs → length p ≤ length xs → Null p
unfolding value
roots_null [] [] b d r l k = refl
roots_null [] (c ∷ cs) b d r l k = absurd (not-suc-le-zero l)
roots_null (x ∷ xs) [] b d r l k = refl
roots_null (x ∷ xs) (c ∷ cs) b d r l k =
    let q : Null (divide x cs) =
    roots_null xs (divide x cs) (divide_elements x cs (elements_tail c cs b)) d.1
    (quotient_roots c cs x (elements_tail c cs b) r.0 r.1 xs d.0 r.2)
    (subst (λ (n : ℕ). n ≤ length xs) (sym (divide_length x cs)) (le_of_suc-le-suc l)) in
    let u = undivide x cs q in
    spread (xor_zero_eq c (mul x (value x cs)) r.1 ∙ ap (mul x) u.0 ∙ mul_zero_r x) u.1 k
  where
    spread : c ≡ 0 → Null cs → Null (c ∷ cs)
    spread e n zero = e
    spread e n (suc k) = n k
