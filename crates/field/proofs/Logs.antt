-- The tables of the powers of α and of their exponents.
use Rattle.std.proofs.Common.{◌≡◌, ℕ, zero, suc, ◌+◌, ◌-◌, ◌*◌, ◌/◌, ◌%◌, ◌<◌, ◌≤◌, Bool, true, T, eqb, ltb, List, [], ◌∷◌, length, get_or, sym, ap, ◌∙◌, subst, le_of_suc-le-suc, not-suc-le-zero, add-zero, add-suc, suc-add, zero-add, arith, lit<, eqb→eq, ltb→lt}
use Rattle.field.specs.Field.{mul, pow, inv, times_x}
use Rattle.field.specs.Laws.{ExponentOf}
use Rattle.field.proofs.Lists.{powers, logs}
use Rattle.field.proofs.Every.{both, both_left, both_right, every, every_at}
use Rattle.field.proofs.Laws.{mul_one_l}
use Rattle.field.proofs.Powers.{pow_two_suc, pow_zero, pow_add, pow_lt, pow_pos, pow_two_whole, inv_lt, inv_mod, mul_inv, mul_cancel}

-- each entry is the one before it times x, from b on
abbrev pub follows : ℕ → List ℕ → Bool
follows b [] = true
follows b (x ∷ xs) = both (eqb x b) (follows (times_x b) xs)

follows_at : (xs : List ℕ) (m : ℕ) → T (follows (pow 2 m) xs) → (k : ℕ) → k < length xs → get_or xs k 0 ≡ pow 2 (m + k)
follows_at [] m t k h = absurd (not-suc-le-zero h)
follows_at (x ∷ xs) m t zero h =
    eqb→eq x (pow 2 m) (both_left (eqb x (pow 2 m)) (follows (times_x (pow 2 m)) xs) t) ∙ ap (pow 2) (sym (add-zero m))
follows_at (x ∷ xs) m t (suc k) h =
    follows_at xs (suc m)
    (subst (λ (b : ℕ). T (follows b xs)) (sym (pow_two_suc m)) (both_right (eqb x (pow 2 m)) (follows (times_x (pow 2 m)) xs) t))
    k (le_of_suc-le-suc h)
    ∙ ap (pow 2) (suc-add m k ∙ sym (add-suc m k))

powers_follow : T (follows 1 powers)
unfolding times_x
powers_follow = tt

pub powers_at : (k : ℕ) → k < 1023 → get_or powers k 0 ≡ pow 2 k
powers_at k h =
    follows_at powers 0 (subst (λ (b : ℕ). T (follows b powers)) (sym (pow_zero 2)) powers_follow) k h ∙ ap (pow 2) (zero-add k)

-- entry k + 1 is an exponent whose power is k + 1
abbrev fits : ℕ → Bool
fits k = both (ltb (get_or logs (suc k) 0) 1023) (eqb (get_or powers (get_or logs (suc k) 0) 0) (suc k))

logs_fit : T (every fits 1023)
logs_fit = tt

pub logs_at : (a : ℕ) → 0 < a → a < 1024 → ExponentOf a (get_or logs a 0)
logs_at zero p h = absurd (not-suc-le-zero p)
logs_at (suc k) p h =
    let i = get_or logs (suc k) 0 in
    let t : T (fits k) = every_at fits 1023 logs_fit k (le_of_suc-le-suc h) in
    let low : i < 1023 = ltb→lt i 1023 (both_left (ltb i 1023) (eqb (get_or powers i 0) (suc k)) t) in
    record {
      small = low;
      gives = sym (powers_at i low) ∙ eqb→eq (get_or powers i 0) (suc k) (both_right (ltb i 1023) (eqb (get_or powers i 0) (suc k)) t);
    }

-- exponents count modulo 1,023
pub pow_whole : (s : ℕ) → 1023 ≤ s → pow 2 (s - 1023) ≡ pow 2 s
pow_whole s h =
    sym (mul_one_l (pow 2 (s - 1023)) (pow_lt 2 (s - 1023)))
    ∙ ap (λ (x : ℕ). mul x (pow 2 (s - 1023))) (sym pow_two_whole)
    ∙ sym (pow_add 2 1023 (s - 1023)) ∙ ap (pow 2) (omega arith)

pow_turns : (q r : ℕ) → pow 2 (q * 1023 + r) ≡ pow 2 r
pow_turns zero r = ap (pow 2) (omega arith)
pow_turns (suc q) r = sym (pow_whole (suc q * 1023 + r) (omega arith)) ∙ ap (pow 2) (omega arith) ∙ pow_turns q r

pub pow_mod : (i : ℕ) → pow 2 (i % 1023) ≡ pow 2 i
pow_mod i = sym (pow_turns (i / 1023) (i % 1023)) ∙ ap (pow 2) (omega arith)

-- the inverse has the exponent that makes up 1,023
pub inverse_power : (a e : ℕ) → ExponentOf (a % 1024) e → pow 2 (1023 - e) ≡ inv a
inverse_power a e x =
    let b = a % 1024 in
    let r = pow 2 (1023 - e) in
    let more : 0 < b = subst (λ (y : ℕ). 0 < y) x.gives (pow_pos 2 e (lit< tt) (lit< tt)) in
    let less : b < 1024 = omega arith in
    let all : e + (1023 - e) ≡ 1023 = omega (arith, x.small) in
    let one : mul b r ≡ 1 = ap (λ (y : ℕ). mul y r) (sym x.gives) ∙ sym (pow_add 2 e (1023 - e)) ∙ ap (pow 2) all ∙ pow_two_whole in
    mul_cancel b r (inv b) more less (pow_lt 2 (1023 - e)) (inv_lt b) (one ∙ sym (mul_inv b more less)) ∙ inv_mod a
