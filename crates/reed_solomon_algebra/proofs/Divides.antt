-- A line is divisible by the generator exactly when it vanishes at the generator's roots.
use Rattle.std.proofs.Common.{◌≡◌, ℕ, zero, suc, ◌+◌, ◌-◌, ◌<◌, ◌≤◌, ◌⊎◌, List, [], ◌∷◌, reverse, length, get_or, take, replicate, sym, refl, ap, ◌∙◌, subst, ap₂, inl, inr, zero-add, arith, lit<, length-take, get_or-take, ext_get_or}
use mathlib.Core.List.{reverse-reverse}
use lib.Bits.{bit_xor, xor_assoc, xor_comm, xor_zero_r, xor_zero_l}
use lib.ListN.{length-reverse, length-replicate}
use Rattle.std.proofs.lemmas.List.{get_or-reverse, get_or_past}
use Rattle.field.specs.Field.{mul, pow}
use Rattle.field.proofs.Linear.{xor_cancel}
use Rattle.field.proofs.Laws.{mul_one_r, mul_zero_r}
use Rattle.symbols.specs.Symbols.{Symbols}
use Rattle.reed_solomon_algebra.specs.Polynomials.{value, plus, scale, times, Divisible, Elements}
use Rattle.reed_solomon_algebra.specs.CodeWords.{generator}
use Rattle.reed_solomon_algebra.specs.Division.{Vanishes}
use Rattle.reed_solomon_algebra.proofs.Polynomials.{plus_at, scale_at, plus_length, plus_length_left, scale_length, times_length, value_plus, value_times, value_line}
use Rattle.reed_solomon_algebra.proofs.Metric.{distance_within}
use Rattle.reed_solomon_algebra.proofs.Differences.{equal_lines}
use Rattle.reed_solomon_algebra.proofs.Generator.{elements, elements_plus, elements_scale, elements_cons, elements_nil, generator_length, generator_first, generator_root}
use Rattle.reed_solomon_algebra.proofs.Division.{line_value_zeros}

pub divisible_vanishes : (k : ℕ) (line : List ℕ) → Divisible (reverse line) (generator k) → Vanishes k line
divisible_vanishes k line d j h =
    ap (value (pow 2 j)) d.exact ∙ value_times (pow 2 j) d.quotient (generator k)
    ∙ ap (mul (value (pow 2 j) d.quotient)) (generator_root k j h) ∙ mul_zero_r (value (pow 2 j) d.quotient)

record Division (g p : List ℕ) (n m : ℕ) : Type 0 where
  quotient : List ℕ
  rest : List ℕ
  quotient_long : length quotient ≡ n
  rest_long : length rest ≡ m
  rest_elements : Elements rest
  is : p ≡ plus (times quotient g) rest

past_take : (m : ℕ) (l : List ℕ) (k : ℕ) → m ≤ k → get_or (take m l) k 0 ≡ 0
past_take m l k h = get_or_past (take m l) k 0 (omega (arith, length-take m l))

elements_take : (m : ℕ) (l : List ℕ) → Elements l → Elements (take m l)
elements_take zero l w = elements_nil
elements_take (suc m) [] w = elements_nil
elements_take (suc m) (a ∷ l) w = elements_cons a (take m l) (w 0) (elements_take m l (λ k. w (suc k)))

three : (k m : ℕ) → (k < m) ⊎ ((k ≡ m) ⊎ (m < k))
three k m = grind arith

-- a list of m + 1 coefficients less c times g, with c its last
less : (g l : List ℕ) (m k : ℕ) → length g ≡ suc m → get_or g m 0 ≡ 1 → length l ≡ suc m → Elements l
    → bit_xor (mul (get_or l m 0) (get_or g k 0)) (bit_xor (get_or (take m l) k 0) (mul (get_or l m 0) (get_or (take m g) k 0))) ≡ get_or l k 0
less g l m k lg one ll w =
    let c = get_or l m 0 in
    elim (three k m) [
      | inl h ↦
          ap (bit_xor (mul c (get_or g k 0)))
          (ap₂ bit_xor (get_or-take m l k 0 h) (ap (mul c) (get_or-take m g k 0 h)) ∙ xor_comm (get_or l k 0) (mul c (get_or g k 0)))
          ∙ xor_cancel (mul c (get_or g k 0)) (get_or l k 0)
      | inr (inl e) ↦
          let low : m ≤ k = omega arith in
          ap₂ bit_xor (ap (mul c) (ap (λ (i : ℕ). get_or g i 0) e ∙ one) ∙ mul_one_r c (w m))
          (ap₂ bit_xor (past_take m l k low) (ap (mul c) (past_take m g k low) ∙ mul_zero_r c))
          ∙ xor_zero_r c ∙ ap (λ (i : ℕ). get_or l i 0) (sym e)
      | inr (inr h) ↦
          let low : m ≤ k = omega arith in
          ap₂ bit_xor (ap (mul c) (get_or_past g k 0 (omega arith)) ∙ mul_zero_r c)
          (ap₂ bit_xor (past_take m l k low) (ap (mul c) (past_take m g k low) ∙ mul_zero_r c))
          ∙ sym (get_or_past l k 0 (omega arith))
    ]

under : (a : ℕ) (p t r : List ℕ) → p ≡ plus t r → (k : ℕ) → get_or (a ∷ p) k 0 ≡ bit_xor (get_or (0 ∷ t) k 0) (get_or (a ∷ r) k 0)
under a p t r e zero = sym (xor_zero_l a)
under a p t r e (suc k) = ap (λ (l : List ℕ). get_or l k 0) e ∙ plus_at t r k

times_at : (c : ℕ) (q g : List ℕ) (k : ℕ) → get_or (times (c ∷ q) g) k 0 ≡ bit_xor (mul c (get_or g k 0)) (get_or (0 ∷ times q g) k 0)
unfolding times
times_at c q g k = plus_at (scale c g) (0 ∷ times q g) k ∙ ap (λ (x : ℕ). bit_xor x (get_or (0 ∷ times q g) k 0)) (scale_at c g k)

divide : (g : List ℕ) (m n : ℕ) (p : List ℕ) → length g ≡ suc m → get_or g m 0 ≡ 1 → length p ≡ n + m → Elements p → Division g p n m
unfolding plus times
divide g m zero p lg one lp w =
    record { quotient = []; rest = p; quotient_long = refl; rest_long = lp ∙ zero-add m; rest_elements = w; is = refl }
divide g m (suc n) [] lg one lp w = let z : ⊥ = omega arith in absurd z
divide g m (suc n) (a ∷ p) lg one lp w =
    let d : Division g p n m = divide g m n p lg one (omega arith) (λ k. w (suc k)) in
    let l = a ∷ d.rest in
    let lw : Elements l = elements_cons a d.rest (w 0) d.rest_elements in
    let ll : length l ≡ suc m = ap suc d.rest_long in
    let c = get_or l m 0 in
    let front : length (take m l) ≡ m = length-take m l ∙ omega arith in
    let low : length (scale c (take m g)) ≡ m = scale_length c (take m g) ∙ length-take m g ∙ omega arith in
    let r = plus (take m l) (scale c (take m g)) in
    let lr : length r ≡ m = plus_length (take m l) (scale c (take m g)) (omega arith) ∙ low in
    let lt : length (times (c ∷ d.quotient) g) ≡ suc (n + m) =
    times_length c d.quotient g (omega arith) ∙ omega (arith, d.quotient_long) in
    record {
      quotient = c ∷ d.quotient;
      rest = r;
      quotient_long = ap suc d.quotient_long;
      rest_long = lr;
      rest_elements = elements_plus (take m l) (scale c (take m g)) (elements_take m l lw) (elements_scale c (take m g));
      is = ext_get_or 0 (a ∷ p) (plus (times (c ∷ d.quotient) g) r)
          (sym (plus_length_left (times (c ∷ d.quotient) g) r (omega arith) ∙ lt ∙ omega arith))
          (λ k h.
          let u = mul c (get_or g k 0) in
          let z = get_or (0 ∷ times d.quotient g) k 0 in
          sym (plus_at (times (c ∷ d.quotient) g) r k
          ∙ ap₂ bit_xor (times_at c d.quotient g k ∙ xor_comm u z)
          (plus_at (take m l) (scale c (take m g)) k ∙ ap (bit_xor (get_or (take m l) k 0)) (scale_at c (take m g) k))
          ∙ xor_assoc z u (bit_xor (get_or (take m l) k 0) (mul c (get_or (take m g) k 0)))
          ∙ ap (bit_xor z) (less g l m k lg one ll lw)
          ∙ sym (under a p (times d.quotient g) d.rest d.is k)));
    }

pub zeros_at : (n k : ℕ) → ◌≡◌ {A = ℕ} (get_or (replicate n 0) k 0) 0
zeros_at zero k = refl
zeros_at (suc n) zero = refl
zeros_at (suc n) (suc k) = zeros_at n k

-- a list whose line vanishes at as many roots as it has coefficients is zero
all_zero : (k : ℕ) (r : List ℕ) → k ≤ 1023 → length r ≡ k → Elements r → ((j : ℕ) → j < k → value (pow 2 j) r ≡ 0) → (i : ℕ) → get_or r i 0 ≡ 0
all_zero k r short l w v i =
    let lr : length (reverse r) ≡ k = length-reverse r ∙ l in
    let lz : length {A = ℕ} (replicate k 0) ≡ k = length-replicate k 0 in
    let sr : Symbols (reverse r) = λ i h.
    (let h' : i < length r = omega arith in
    subst (λ (x : ℕ). x < 1024) (sym (get_or-reverse r i 0 h')) (w (length r - 1 - i))) in
    let sz : Symbols (replicate k 0) = λ i h. subst (λ (x : ℕ). x < 1024) (sym (zeros_at k i)) (lit< tt) in
    let same : reverse r ≡ replicate k 0 =
    equal_lines k (reverse r) (replicate k 0) (lr ∙ sym lz) (omega arith) sr sz
    (λ j h. ap (value (pow 2 j)) (reverse-reverse r) ∙ v j h)
    (λ j h. value_line (pow 2 j) (replicate k 0) sz ∙ line_value_zeros (pow 2 j) k)
    (omega (arith, distance_within (reverse r) (replicate k 0))) in
    elim (three i k) [
      | inl h ↦
          let h' : i < length (reverse r) = omega arith in
          ap (λ (x : List ℕ). get_or x i 0) (sym (reverse-reverse r)) ∙ get_or-reverse (reverse r) i 0 h'
          ∙ ap (λ (x : List ℕ). get_or x (length (reverse r) - 1 - i) 0) same ∙ zeros_at k (length (reverse r) - 1 - i)
      | inr h ↦ get_or_past r i 0 (past h)
    ]
  where
    past : (i ≡ k) ⊎ (k < i) → length r ≤ i
    past (inl e) = omega arith
    past (inr e) = omega arith

rest_root : (k : ℕ) (p q r : List ℕ) (j : ℕ) → j < k → p ≡ plus (times q (generator k)) r → value (pow 2 j) r ≡ value (pow 2 j) p
rest_root k p q r j h e =
    sym (ap (value (pow 2 j)) e ∙ value_plus (pow 2 j) (times q (generator k)) r
    ∙ ap (λ (x : ℕ). bit_xor x (value (pow 2 j) r))
    (value_times (pow 2 j) q (generator k) ∙ ap (mul (value (pow 2 j) q)) (generator_root k j h) ∙ mul_zero_r (value (pow 2 j) q))
    ∙ xor_zero_l (value (pow 2 j) r))

pub vanishes_divisible : (k n : ℕ) (line : List ℕ) → k ≤ 1023 → length line ≡ suc n + k → Symbols line → Vanishes k line → Divisible (reverse line) (generator k)
vanishes_divisible k n line short l s v =
    let p = reverse line in
    let lp : length p ≡ suc n + k = length-reverse line ∙ l in
    let sp : Symbols p = λ i h.
    (let h' : i < length line = omega arith in
    subst (λ (x : ℕ). x < 1024) (sym (get_or-reverse line i 0 h')) (s (length line - 1 - i) (omega arith))) in
    let d = divide (generator k) k (suc n) p (generator_length k) (generator_first k) lp (elements p sp) in
    whole p lp d (all_zero k d.rest short d.rest_long d.rest_elements (λ j h.
    rest_root k p d.quotient d.rest j h d.is ∙ v j h))
  where
    divided : (p q r : List ℕ) → length p ≡ suc n + k → length q ≡ suc n → length r ≡ k → p ≡ plus (times q (generator k)) r
        → ((i : ℕ) → get_or r i 0 ≡ 0) → p ≡ times q (generator k)
    divided p [] r lp lq lr e z = let y : ⊥ = omega arith in absurd y
    divided p (c ∷ q) r lp lq lr e z =
        let lt = times_length c q (generator k) (omega (arith, generator_length k)) in
        ext_get_or 0 p (times (c ∷ q) (generator k)) (omega (arith, generator_length k))
        (λ i h. ap (λ (x : List ℕ). get_or x i 0) e ∙ plus_at (times (c ∷ q) (generator k)) r i
        ∙ ap (bit_xor (get_or (times (c ∷ q) (generator k)) i 0)) (z i) ∙ xor_zero_r (get_or (times (c ∷ q) (generator k)) i 0))

    whole : (p : List ℕ) → length p ≡ suc n + k → (d : Division (generator k) p (suc n) k) → ((i : ℕ) → get_or d.rest i 0 ≡ 0) → Divisible p (generator k)
    whole p lp d z = record { quotient = d.quotient; exact = divided p d.quotient d.rest lp d.quotient_long d.rest_long d.is z }
