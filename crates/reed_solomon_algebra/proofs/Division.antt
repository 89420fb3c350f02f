-- The shift register: what it leaves, at a root of the generator.
use Rattle.std.proofs.Common.{◌≡◌, ℕ, zero, suc, ◌<◌, List, [], ◌∷◌, ◌++◌, length, get_or, replicate, sym, refl, ap, ◌∙◌, subst, ap₂, arith, lit<, length-append}
use lib.Bits.{bit_xor, xor_assoc, xor_comm, xor_lt, xor_zero_r, xor_zero_l}
use Rattle.field.specs.Field.{mul, pow}
use Rattle.field.proofs.Linear.{xor4}
use Rattle.field.proofs.Laws.{mul_xor_r, mul_xor_l, mul_lt, mul_comm, mul_assoc, mul_one_l, mul_one_r, mul_zero_r, mul_zero_l, mul_left_comm}
use Rattle.field.proofs.Powers.{pow_zero, pow_suc, pow_add}
use Rattle.reed_solomon_algebra.specs.Polynomials.{plus, scale, Elements}
use Rattle.reed_solomon_algebra.specs.Division.{step, remainder}
use Rattle.reed_solomon_algebra.proofs.Polynomials.{line_value, plus_at, scale_at, plus_length, scale_length}
use Rattle.reed_solomon_algebra.proofs.Generator.{elements_plus, elements_scale}

pub line_value_lt : (x : ℕ) (line : List ℕ) → line_value x line < 1024
unfolding line_value
line_value_lt x [] = lit< tt
line_value_lt x (a ∷ line) = xor_lt 10 (mul a (pow x (length line))) (line_value x line) (mul_lt a (pow x (length line))) (line_value_lt x line)

pub line_value_append : (x : ℕ) (p q : List ℕ) → line_value x (p ++ q) ≡ bit_xor (mul (pow x (length q)) (line_value x p)) (line_value x q)
unfolding line_value
line_value_append x [] q = sym (ap (λ (y : ℕ). bit_xor y (line_value x q)) (mul_zero_r (pow x (length q))) ∙ xor_zero_l (line_value x q))
line_value_append x (a ∷ p) q =
    ap₂ bit_xor
    (ap (mul a) (ap (pow x) (length-append p q) ∙ pow_add x (length p) (length q) ∙ mul_comm (pow x (length p)) (pow x (length q)))
    ∙ mul_left_comm a (pow x (length q)) (pow x (length p)))
    (line_value_append x p q)
    ∙ sym (xor_assoc (mul (pow x (length q)) (mul a (pow x (length p)))) (mul (pow x (length q)) (line_value x p)) (line_value x q))
    ∙ ap (λ (y : ℕ). bit_xor y (line_value x q)) (sym (mul_xor_r (pow x (length q)) (mul a (pow x (length p))) (line_value x p)))

pub line_value_zeros : (x n : ℕ) → line_value x (replicate n 0) ≡ 0
unfolding line_value
line_value_zeros x zero = refl
line_value_zeros x (suc n) = ap₂ bit_xor (mul_zero_l (pow x (length (replicate n 0)))) (line_value_zeros x n)

pub line_value_plus : (x : ℕ) (p q : List ℕ) → length p ≡ length q → line_value x (plus p q) ≡ bit_xor (line_value x p) (line_value x q)
unfolding line_value plus
line_value_plus x [] q h = sym (xor_zero_l (line_value x q))
line_value_plus x (a ∷ p) [] h = let z : ⊥ = omega arith in absurd z
line_value_plus x (a ∷ p) (b ∷ q) h =
    let same : length p ≡ length q = omega arith in
    let l : length (plus p q) ≡ length p = plus_length p q (omega arith) ∙ sym same in
    ap₂ bit_xor (ap (λ (n : ℕ). mul (bit_xor a b) (pow x n)) l ∙ mul_xor_l a b (pow x (length p))) (line_value_plus x p q same)
    ∙ xor4 (mul a (pow x (length p))) (mul b (pow x (length p))) (line_value x p) (line_value x q)
    ∙ ap (λ (n : ℕ). bit_xor (bit_xor (mul a (pow x (length p))) (line_value x p)) (bit_xor (mul b (pow x n)) (line_value x q))) same

line_value_scale : (x c : ℕ) (p : List ℕ) → line_value x (scale c p) ≡ mul c (line_value x p)
unfolding line_value scale
line_value_scale x c [] = sym (mul_zero_r c)
line_value_scale x c (a ∷ p) =
    ap₂ bit_xor (ap (λ (n : ℕ). mul (mul c a) (pow x n)) (scale_length c p) ∙ mul_assoc c a (pow x (length p))) (line_value_scale x c p)
    ∙ sym (mul_xor_r c (mul a (pow x (length p))) (line_value x p))

line_value_one : (x a : ℕ) → a < 1024 → line_value x (a ∷ []) ≡ a
unfolding line_value
line_value_one x a h = xor_zero_r (mul a (pow x 0)) ∙ ap (mul a) (pow_zero x) ∙ mul_one_r a h

line_value_shift : (x : ℕ) (p : List ℕ) → x < 1024 → line_value x (p ++ 0 ∷ []) ≡ mul x (line_value x p)
line_value_shift x p h =
    line_value_append x p (0 ∷ [])
    ∙ ap₂ bit_xor (ap (λ (y : ℕ). mul y (line_value x p)) (pow_suc x 0 ∙ ap (mul x) (pow_zero x) ∙ mul_one_r x h)) (line_value_one x 0 (lit< tt))
    ∙ xor_zero_r (mul x (line_value x p))

-- ---- one step

pub step_length : (g r : List ℕ) (s : ℕ) → length g ≡ length r → length (step g r s) ≡ length r
unfolding step
step_length g [] s h = refl
step_length g (r ∷ rs) s h =
    let l : length (rs ++ 0 ∷ []) ≡ suc (length rs) = length-append rs (0 ∷ []) ∙ omega arith in
    plus_length (rs ++ 0 ∷ []) (scale (bit_xor s r) g) (omega (arith, scale_length (bit_xor s r) g)) ∙ scale_length (bit_xor s r) g ∙ h

shifted_at : (rs : List ℕ) (k : ℕ) → get_or (rs ++ 0 ∷ []) k 0 ≡ get_or rs k 0
shifted_at [] zero = refl
shifted_at [] (suc k) = refl
shifted_at (a ∷ rs) zero = refl
shifted_at (a ∷ rs) (suc k) = shifted_at rs k

pub step_place : (g r : List ℕ) (s k : ℕ) → 0 < length r
    → get_or (step g r s) k 0 ≡ bit_xor (get_or r (suc k) 0) (mul (bit_xor s (get_or r 0 0)) (get_or g k 0))
unfolding step
step_place g [] s k h = omega arith
step_place g (r ∷ rs) s k h =
    plus_at (rs ++ 0 ∷ []) (scale (bit_xor s r) g) k ∙ ap₂ bit_xor (shifted_at rs k) (scale_at (bit_xor s r) g k)

pub step_elements : (g r : List ℕ) (s : ℕ) → Elements r → Elements (step g r s)
unfolding step
step_elements g [] s w = w
step_elements g (r ∷ rs) s w =
    elements_plus (rs ++ 0 ∷ []) (scale (bit_xor s r) g)
    (λ k. subst (λ (x : ℕ). x < 1024) (sym (shifted_at rs k)) (w (suc k))) (elements_scale (bit_xor s r) g)

pub step_value : (x : ℕ) (g r : List ℕ) (s : ℕ) → x < 1024 → 0 < length r → length g ≡ length r → line_value x g ≡ pow x (length r)
    → line_value x (step g r s) ≡ bit_xor (mul x (line_value x r)) (mul s (pow x (length r)))
unfolding step line_value
step_value x g [] s b p h e = omega arith
step_value x g (r ∷ rs) s b p h e =
    let l : length (rs ++ 0 ∷ []) ≡ suc (length rs) = length-append rs (0 ∷ []) ∙ omega arith in
    let m = pow x (suc (length rs)) in
    let up : mul r m ≡ mul x (mul r (pow x (length rs))) = ap (mul r) (pow_suc x (length rs)) ∙ mul_left_comm r x (pow x (length rs)) in
    line_value_plus x (rs ++ 0 ∷ []) (scale (bit_xor s r) g) (l ∙ sym h ∙ sym (scale_length (bit_xor s r) g))
    ∙ ap₂ bit_xor (line_value_shift x rs b) (line_value_scale x (bit_xor s r) g ∙ ap (mul (bit_xor s r)) e ∙ mul_xor_l s r m ∙ xor_comm (mul s m) (mul r m))
    ∙ sym (xor_assoc (mul x (line_value x rs)) (mul r m) (mul s m))
    ∙ ap (λ (y : ℕ). bit_xor y (mul s m))
    (xor_comm (mul x (line_value x rs)) (mul r m) ∙ ap (λ (y : ℕ). bit_xor y (mul x (line_value x rs))) up
    ∙ sym (mul_xor_r x (mul r (pow x (length rs))) (line_value x rs)))

-- ---- all steps

pub remainder_length : (g r line : List ℕ) → length g ≡ length r → length (remainder g r line) ≡ length r
unfolding remainder
remainder_length g r [] h = refl
remainder_length g r (s ∷ line) h =
    let l = step_length g r s h in
    remainder_length g (step g r s) line (h ∙ sym l) ∙ l

pub remainder_elements : (g r line : List ℕ) → Elements r → Elements (remainder g r line)
unfolding remainder
remainder_elements g r [] w = w
remainder_elements g r (s ∷ line) w = remainder_elements g (step g r s) line (step_elements g r s w)

pub remainder_value : (x : ℕ) (g r line : List ℕ) → x < 1024 → 0 < length r → length g ≡ length r → line_value x g ≡ pow x (length r)
    → line_value x (remainder g r line) ≡ bit_xor (mul (pow x (length line)) (line_value x r)) (mul (pow x (length r)) (line_value x line))
unfolding remainder line_value
remainder_value x g r [] b p h e =
    sym (ap₂ bit_xor (ap (λ (y : ℕ). mul y (line_value x r)) (pow_zero x) ∙ mul_one_l (line_value x r) (line_value_lt x r)) (mul_zero_r (pow x (length r)))
    ∙ xor_zero_r (line_value x r))
remainder_value x g r (s ∷ line) b p h e =
    let l = step_length g r s h in
    let n = pow x (length line) in
    let m = pow x (length r) in
    remainder_value x g (step g r s) line b (omega arith) (h ∙ sym l) (e ∙ ap (pow x) (sym l))
    ∙ ap₂ bit_xor
    (ap (mul n) (step_value x g r s b p h e) ∙ mul_xor_r n (mul x (line_value x r)) (mul s m)
    ∙ ap₂ bit_xor (sym (mul_assoc n x (line_value x r)) ∙ ap (λ (y : ℕ). mul y (line_value x r)) (mul_comm n x ∙ sym (pow_suc x (length line))))
    (mul_left_comm n s m ∙ ap (mul s) (mul_comm n m) ∙ mul_left_comm s m n))
    (ap (λ (k : ℕ). mul (pow x k) (line_value x line)) l)
    ∙ xor_assoc (mul (pow x (suc (length line))) (line_value x r)) (mul m (mul s n)) (mul m (line_value x line))
    ∙ ap (bit_xor (mul (pow x (suc (length line))) (line_value x r))) (sym (mul_xor_r m (mul s n) (line_value x line)))
