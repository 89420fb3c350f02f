-- The values at the places.
use Rattle.std.proofs.Common.{◌≡◌, ℕ, zero, suc, ◌<◌, Bool, true, false, cond, T, eqb, ◌≢◌, List, [], ◌∷◌, length, get_or, sym, refl, ap, ◌∙◌, subst, ap₂, inl, inr, not-suc-le-zero, arith, lit<, eqb→eq}
use native.Mathlib.Decide.{ℕ_discrete}
use lib.Bits.{bit_xor, xor_lt, xor_self}
use lib.Dec.{eqb_refl}
use Rattle.field.proofs.Linear.{xor4, xor_zero_eq}
use Rattle.field.proofs.Laws.{mul_xor_r, mul_xor_l, mul_lt, mul_assoc, mul_one_r, mul_zero_r, mul_zero_l, mul_left_comm}
use Rattle.field.proofs.Powers.{pow_suc, pow_zero, mul_pos, mul_inv}
use Rattle.reed_solomon_decoder.proofs.Places.{differ_at, has_at, eq_true, eq_false}
use Rattle.field.specs.Field.{inv, mul, pow}
use Rattle.reed_solomon_algebra.specs.Polynomials.{Elements}
use Rattle.reed_solomon_algebra.specs.Terms.{Differ, Small, Term, power_sum}
use Rattle.reed_solomon_decoder.specs.Errors.{Covered, Has, at, passed, weigh_by}

pub passed_skip : (xs : List ℕ) (i k y : ℕ) → k ≡ i → passed xs i (suc k) y ≡ passed xs i k y
unfolding passed
passed_skip xs i k y e = ap (λ (b : Bool). cond b (passed xs i k y) (mul (passed xs i k y) (bit_xor y (get_or xs k 0)))) (eq_true k i e)

pub passed_more : (xs : List ℕ) (i k y : ℕ) → k ≢ i → passed xs i (suc k) y ≡ mul (passed xs i k y) (bit_xor y (get_or xs k 0))
unfolding passed
passed_more xs i k y ne = ap (λ (b : Bool). cond b (passed xs i k y) (mul (passed xs i k y) (bit_xor y (get_or xs k 0)))) (eq_false k i ne)

pub passed_lt : (xs : List ℕ) (i k y : ℕ) → passed xs i k y < 1024
unfolding passed
passed_lt xs i zero y = lit< tt
passed_lt xs i (suc k) y = go (passed_lt xs i k y) (eqb k i)
  where
    go : passed xs i k y < 1024 → (b : Bool) → cond b (passed xs i k y) (mul (passed xs i k y) (bit_xor y (get_or xs k 0))) < 1024
    go r true = r
    go r false = mul_lt (passed xs i k y) (bit_xor y (get_or xs k 0))

passed_zero : (xs : List ℕ) (i k h : ℕ) → h < k → h ≢ i → passed xs i k (get_or xs h 0) ≡ 0
passed_zero xs i zero h l ne = absurd (not-suc-le-zero l)
passed_zero xs i (suc k) h l ne =
    let y = get_or xs h 0 in
    elim (ℕ_discrete k i) [
      | yes e ↦ passed_skip xs i k y e ∙ passed_zero xs i k h (omega arith) ne
      | no n ↦
          let n' : k ≢ i = n in
          passed_more xs i k y n
          ∙ (elim (ℕ_discrete h k) [
            | yes e ↦ ap (mul (passed xs i k y)) (ap (λ (m : ℕ). bit_xor y (get_or xs m 0)) (sym e) ∙ xor_self y) ∙ mul_zero_r (passed xs i k y)
            | no m ↦
                let m' : h ≢ k = m in
                ap (λ (z : ℕ). mul z (bit_xor y (get_or xs k 0))) (passed_zero xs i k h (omega arith) ne) ∙ mul_zero_l (bit_xor y (get_or xs k 0))
          ])
    ]

xor_apart : (a b : ℕ) → a ≢ b → 0 < bit_xor a b
xor_apart a b ne = go (bit_xor a b) refl
  where
    go : (v : ℕ) → bit_xor a b ≡ v → 0 < v
    go zero e = absurd (ne (xor_zero_eq a b e))
    go (suc v) e = omega arith

passed_pos : (xs : List ℕ) (i k : ℕ) → Elements xs → ((h : ℕ) → h < k → h ≢ i → get_or xs i 0 ≢ get_or xs h 0) → 0 < passed xs i k (get_or xs i 0)
unfolding passed
passed_pos xs i zero b d = lit< tt
passed_pos xs i (suc k) b d =
    let y = get_or xs i 0 in
    let before : 0 < passed xs i k y = passed_pos xs i k b (λ h l ne. d h (omega arith) ne) in
    elim (ℕ_discrete k i) [
      | yes e ↦ subst (λ (z : ℕ). 0 < z) (sym (passed_skip xs i k y e)) before
      | no n ↦
          subst (λ (z : ℕ). 0 < z) (sym (passed_more xs i k y n))
          (mul_pos (passed xs i k y) (bit_xor y (get_or xs k 0)) (passed_lt xs i k y) (xor_lt 10 y (get_or xs k 0) (b i) (b k)) before
          (xor_apart y (get_or xs k 0) (d k (omega arith) n)))
    ]

-- ---- the sums as they are pulled

pull_term : (d f p x j : ℕ)
    → mul (mul d (mul f (bit_xor p x))) (pow p j) ≡ bit_xor (mul (mul d f) (pow p (suc j))) (mul x (mul (mul d f) (pow p j)))
pull_term d f p x j =
    ap (λ (z : ℕ). mul z (pow p j)) (sym (mul_assoc d f (bit_xor p x)))
    ∙ mul_assoc (mul d f) (bit_xor p x) (pow p j)
    ∙ ap (mul (mul d f)) (mul_xor_l p x (pow p j)) ∙ mul_xor_r (mul d f) (mul p (pow p j)) (mul x (pow p j))
    ∙ ap₂ bit_xor (ap (mul (mul d f)) (sym (pow_suc p j))) (mul_left_comm (mul d f) x (pow p j))

pub pull_sum : (xs : List ℕ) (i k j : ℕ) (ts : List Term) → k ≢ i
    → power_sum j (weigh_by (passed xs i (suc k)) ts)
    ≡ bit_xor (power_sum (suc j) (weigh_by (passed xs i k) ts)) (mul (get_or xs k 0) (power_sum j (weigh_by (passed xs i k) ts)))
unfolding weigh_by power_sum
pull_sum xs i k j [] ne = sym (mul_zero_r (get_or xs k 0))
pull_sum xs i k j (t ∷ ts) ne =
    let x = get_or xs k 0 in
    let f = passed xs i k t.place in
    let d = mul t.coef f in
    ap₂ bit_xor
    (ap (λ (z : ℕ). mul (mul t.coef z) (pow t.place j)) (passed_more xs i k t.place ne) ∙ pull_term t.coef f t.place x j)
    (pull_sum xs i k j ts ne)
    ∙ xor4 (mul d (pow t.place (suc j))) (mul x (mul d (pow t.place j))) (power_sum (suc j) (weigh_by (passed xs i k) ts)) (mul x (power_sum j (weigh_by (passed xs i k) ts)))
    ∙ ap (bit_xor (bit_xor (mul d (pow t.place (suc j))) (power_sum (suc j) (weigh_by (passed xs i k) ts))))
    (sym (mul_xor_r x (mul d (pow t.place j)) (power_sum j (weigh_by (passed xs i k) ts))))

pub skip_sum : (xs : List ℕ) (i k j : ℕ) (ts : List Term) → k ≡ i
    → power_sum j (weigh_by (passed xs i (suc k)) ts) ≡ power_sum j (weigh_by (passed xs i k) ts)
unfolding weigh_by power_sum
skip_sum xs i k j [] e = refl
skip_sum xs i k j (t ∷ ts) e =
    ap₂ bit_xor (ap (λ (z : ℕ). mul (mul t.coef z) (pow t.place j)) (passed_skip xs i k t.place e)) (skip_sum xs i k j ts e)

pub start_sum : (xs : List ℕ) (i j : ℕ) (ts : List Term) → Small ts → power_sum j (weigh_by (passed xs i 0) ts) ≡ power_sum j ts
unfolding weigh_by power_sum passed
start_sum xs i j [] s = refl
start_sum xs i j (t ∷ ts) s =
    ap₂ bit_xor (ap (λ (z : ℕ). mul z (pow t.place j)) (mul_one_r t.coef s.0)) (start_sum xs i j ts s.2)

-- where f is zero at every place but x, the sum is what stands at x, times f there
only_by : (f : ℕ → ℕ) (x : ℕ) (xs : List ℕ) (ts : List Term) → ((y : ℕ) → Has y xs → y ≢ x → f y ≡ 0) → Covered xs ts
    → power_sum 0 (weigh_by f ts) ≡ mul (at x ts) (f x)
unfolding weigh_by power_sum at
only_by f x xs [] z v = sym (mul_zero_l (f x))
only_by f x xs (t ∷ ts) z v =
    ap₂ bit_xor
    (ap (mul (mul t.coef (f t.place))) (pow_zero t.place) ∙ mul_one_r (mul t.coef (f t.place)) (mul_lt t.coef (f t.place))
    ∙ one (eqb t.place x) refl)
    (only_by f x xs ts z v.1)
    ∙ sym (mul_xor_l (cond (eqb t.place x) t.coef 0) (at x ts) (f x))
  where
    one : (b : Bool) → eqb t.place x ≡ b → mul t.coef (f t.place) ≡ mul (cond b t.coef 0) (f x)
    one true e = ap (λ (y : ℕ). mul t.coef (f y)) (eqb→eq t.place x (subst T (sym e) tt))
    one false e =
        (elim v.0 [
          | inl none ↦ ap (λ (d : ℕ). mul d (f t.place)) none ∙ mul_zero_l (f t.place)
          | inr has ↦
              ap (mul t.coef) (z t.place has (λ same. absurd (subst T e (subst (λ (y : ℕ). T (eqb t.place y)) same (eqb_refl t.place)))))
              ∙ mul_zero_r t.coef
        ])
        ∙ sym (mul_zero_l (f x))

pub at_lt : (x : ℕ) (ts : List Term) → Small ts → at x ts < 1024
unfolding at
at_lt x [] s = lit< tt
at_lt x (t ∷ ts) s = xor_lt 10 (cond (eqb t.place x) t.coef 0) (at x ts) (go (eqb t.place x)) (at_lt x ts s.2)
  where
    go : (b : Bool) → cond b t.coef 0 < 1024
    go true = s.0
    go false = lit< tt

-- what the sums leave at a place, divided by the ways to the others, is the value there
pub value_true : (xs : List ℕ) (i : ℕ) (e : List Term) (v : ℕ) → i < length xs → Elements xs → Differ xs → Small e → Covered xs e
    → v ≡ power_sum 0 (weigh_by (passed xs i (length xs)) e) → mul v (inv (passed xs i (length xs) (get_or xs i 0))) ≡ at (get_or xs i 0) e
value_true xs i e v l b d s cover is =
    let x = get_or xs i 0 in
    let n = length xs in
    let f = passed xs i n x in
    let pos : 0 < f = passed_pos xs i n b (λ h lh ne. λ q. differ_at xs h i d lh l ne (sym q)) in
    let sum : v ≡ mul (at x e) f =
    is ∙ only_by (passed xs i n) x xs e
    (λ y has apart.
    let w = has_at y xs has in
    ap (passed xs i n) (sym w.2)
    ∙ passed_zero xs i n w.0 w.1 (λ q. apart (sym w.2 ∙ ap (λ (m : ℕ). get_or xs m 0) q)))
    cover in
    ap (λ (z : ℕ). mul z (inv f)) sum ∙ mul_assoc (at x e) f (inv f)
    ∙ ap (mul (at x e)) (mul_inv f pos (passed_lt xs i n x)) ∙ mul_one_r (at x e) (at_lt x e s)
