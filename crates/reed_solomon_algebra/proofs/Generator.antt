-- The generator: its length, its first coefficient, its roots.
use Rattle.std.proofs.Common.{◌≡◌, ℕ, zero, suc, ◌-◌, ◌<◌, ◌≢◌, List, [], ◌∷◌, reverse, length, get_or, drop, sym, refl, ap, ◌∙◌, subst, ap₂, arith, lit<, drop-cons}
use mathlib.Core.List.{reverse-reverse}
use native.Mathlib.Decide.{ℕ_discrete}
use lib.Bits.{bit_xor, xor_self, xor_lt}
use lib.ListN.{length-reverse}
use Rattle.std.proofs.lemmas.List.{get_or-reverse, get_or_past}
use Rattle.field.specs.Field.{mul, pow}
use Rattle.field.proofs.Linear.{xor_zero_eq}
use Rattle.field.proofs.Laws.{mul_lt, mul_one_l, mul_one_r, mul_zero_r, mul_zero_l}
use Rattle.field.proofs.Powers.{pow_lt}
use Rattle.symbols.specs.Symbols.{Symbols}
use Rattle.reed_solomon_algebra.specs.Polynomials.{value, plus, scale, times, Elements}
use Rattle.reed_solomon_algebra.specs.CodeWords.{generator}
use Rattle.reed_solomon_algebra.specs.Division.{below_first}
use Rattle.reed_solomon_algebra.proofs.Polynomials.{plus_at, scale_at, times_length, value_times, line_value, value_line}

pub elements_plus : (p q : List ℕ) → Elements p → Elements q → Elements (plus p q)
elements_plus p q v w k = subst (λ (x : ℕ). x < 1024) (sym (plus_at p q k)) (xor_lt 10 (get_or p k 0) (get_or q k 0) (v k) (w k))

pub elements_scale : (c : ℕ) (p : List ℕ) → Elements (scale c p)
elements_scale c p k = subst (λ (x : ℕ). x < 1024) (sym (scale_at c p k)) (mul_lt c (get_or p k 0))

pub elements_cons : (a : ℕ) (p : List ℕ) → a < 1024 → Elements p → Elements (a ∷ p)
elements_cons a p h w zero = h
elements_cons a p h w (suc k) = w k

pub elements_nil : Elements []
elements_nil k = lit< tt

pub elements_times : (p q : List ℕ) → Elements (times p q)
unfolding times
elements_times [] q = elements_nil
elements_times (a ∷ p) q = elements_plus (scale a q) (0 ∷ times p q) (elements_scale a q) (elements_cons 0 (times p q) (lit< tt) (elements_times p q))

pub elements : (p : List ℕ) → Symbols p → Elements p
elements [] s = elements_nil
elements (a ∷ p) s = elements_cons a p (s 0 (omega arith)) (elements p (λ k h. s (suc k) (omega arith)))

pub generator_elements : (k : ℕ) → Elements (generator k)
unfolding generator
generator_elements zero = elements_cons 1 [] (lit< tt) elements_nil
generator_elements (suc k) = elements_times _ (generator k)

pub generator_length : (k : ℕ) → length (generator k) ≡ suc k
unfolding generator
generator_length zero = refl
generator_length (suc k) =
    let i = generator_length k in
    times_length _ (1 ∷ []) (generator k) (omega arith) ∙ omega arith

pub generator_first : (k : ℕ) → get_or (generator k) k 0 ≡ 1
unfolding generator times
generator_first zero = refl
generator_first (suc k) =
    let past : get_or (generator k) (suc k) 0 ≡ 0 = get_or_past (generator k) (suc k) 0 (omega (arith, generator_length k)) in
    plus_at (scale _ (generator k)) (0 ∷ times (1 ∷ []) (generator k)) (suc k)
    ∙ ap₂ bit_xor (scale_at _ (generator k) (suc k) ∙ ap (mul _) past ∙ mul_zero_r _)
    (plus_at (scale 1 (generator k)) (0 ∷ []) k
    ∙ ap₂ bit_xor (scale_at 1 (generator k) k ∙ ap (mul 1) (generator_first k) ∙ mul_one_l 1 (lit< tt)) (zeros k))
  where
    zeros : (k : ℕ) → ◌≡◌ {A = ℕ} (get_or (0 ∷ []) k 0) 0
    zeros zero = refl
    zeros (suc k) = refl

factor_root : (r : ℕ) → r < 1024 → value r (r ∷ 1 ∷ []) ≡ 0
unfolding value
factor_root r h =
    ap (bit_xor r) (ap (mul r) (ap (bit_xor 1) (mul_zero_r r)) ∙ mul_one_r r h) ∙ xor_self r

pub generator_root : (k j : ℕ) → j < k → value (pow 2 j) (generator k) ≡ 0
unfolding generator
generator_root zero j h = omega arith
generator_root (suc k) j h =
    value_times (pow 2 j) (pow 2 k ∷ 1 ∷ []) (generator k)
    ∙ elim (ℕ_discrete j k) [
      | yes e ↦
          ap (λ (x : ℕ). mul x (value (pow 2 j) (generator k)))
          (ap (λ (i : ℕ). value (pow 2 j) (pow 2 i ∷ 1 ∷ [])) (sym e) ∙ factor_root (pow 2 j) (pow_lt 2 j))
          ∙ mul_zero_l (value (pow 2 j) (generator k))
      | no ne ↦
          let ne' : j ≢ k = ne in
          ap (mul (value (pow 2 j) (pow 2 k ∷ 1 ∷ []))) (generator_root k j (omega arith))
          ∙ mul_zero_r (value (pow 2 j) (pow 2 k ∷ 1 ∷ []))
    ]

-- ---- as a line

pub generator_line : (k : ℕ) → reverse (generator k) ≡ 1 ∷ below_first k
unfolding below_first
generator_line k =
    let n = generator_length k in
    let l : length (reverse (generator k)) ≡ suc k = length-reverse (generator k) ∙ n in
    let last : length (generator k) - 1 - 0 ≡ k = omega arith in
    drop-cons (reverse (generator k)) 0 0 (omega arith)
    ∙ ap (λ (x : ℕ). x ∷ drop 1 (reverse (generator k)))
    (get_or-reverse (generator k) 0 0 (omega arith) ∙ ap (λ (i : ℕ). get_or (generator k) i 0) last ∙ generator_first k)

pub below_length : (k : ℕ) → length (below_first k) ≡ k
below_length k = omega (arith, ap length (generator_line k), length-reverse (generator k), generator_length k)

pub below_symbols : (k : ℕ) → Symbols (1 ∷ below_first k)
below_symbols k = subst Symbols (generator_line k) (λ i h.
    let h' : i < length (generator k) = omega (arith, length-reverse (generator k)) in
    subst (λ (x : ℕ). x < 1024) (sym (get_or-reverse (generator k) i 0 h')) (generator_elements k (length (generator k) - 1 - i)))

pub below_value : (k j : ℕ) → j < k → line_value (pow 2 j) (below_first k) ≡ pow (pow 2 j) k
unfolding line_value
below_value k j h =
    let whole : line_value (pow 2 j) (1 ∷ below_first k) ≡ 0 =
    sym (value_line (pow 2 j) (1 ∷ below_first k) (below_symbols k))
    ∙ ap (λ (l : List ℕ). value (pow 2 j) (reverse l)) (sym (generator_line k))
    ∙ ap (value (pow 2 j)) (reverse-reverse (generator k)) ∙ generator_root k j h in
    sym (xor_zero_eq (mul 1 (pow (pow 2 j) (length (below_first k)))) (line_value (pow 2 j) (below_first k)) whole)
    ∙ mul_one_l (pow (pow 2 j) (length (below_first k))) (pow_lt (pow 2 j) (length (below_first k)))
    ∙ ap (pow (pow 2 j)) (below_length k)
