-- The pattern, bit by bit.
use Rattle.std.proofs.Common.{◌≡◌, ℕ, zero, suc, ◌+◌, ◌-◌, ◌/◌, ◌%◌, ◌^◌, ◌<◌, ◌≤◌, ltb, List, [], ◌∷◌, ◌++◌, length, get_or, sym, refl, ap, ◌∙◌, inl, inr, add-one, arith}
use Rattle.std.proofs.lemmas.List.{length_push, get_or_append_left, get_or_push}
use Rattle.std.proofs.lemmas.Bool.{lt-ltb, le-ltb, cond-true, cond-false, cases_lt}
use Rattle.signal.specs.Signal.{pattern, pattern_next}

pub length_pattern : (seed n : ℕ) → length (pattern seed n) ≡ n
unfolding pattern
length_pattern seed zero = refl
length_pattern seed (suc n) = let i = length_pattern seed n in length_push (pattern seed n) (pattern_next seed (pattern seed n) n) ∙ omega arith

pub pattern_more : (seed n : ℕ) → pattern seed n ++ pattern_next seed (pattern seed n) n ∷ [] ≡ pattern seed (n + 1)
unfolding pattern
pattern_more seed n = ap (pattern seed) (sym (add-one n))

pub next_early : (seed k : ℕ) (before : List ℕ) → k < 11 → pattern_next seed before k ≡ seed / 2 ^ k % 2
next_early seed k before h = cond-true (ltb k 11) (seed / 2 ^ k % 2) ((get_or before (k - 9) 0 + get_or before (k - 11) 0) % 2) (lt-ltb k 11 h)

pub next_later : (seed k : ℕ) (before : List ℕ) → 11 ≤ k → pattern_next seed before k ≡ (get_or before (k - 9) 0 + get_or before (k - 11) 0) % 2
next_later seed k before h = cond-false (ltb k 11) (seed / 2 ^ k % 2) ((get_or before (k - 9) 0 + get_or before (k - 11) 0) % 2) (le-ltb k 11 h)

-- a bit does not change as the pattern grows
pub pattern_bit : (seed n k : ℕ) → k < n → get_or (pattern seed n) k 0 ≡ pattern_next seed (pattern seed k) k
unfolding pattern
pattern_bit seed zero k h = absurd (omega arith)
pattern_bit seed (suc n) k h =
    let long = length_pattern seed n in
    let next = pattern_next seed (pattern seed n) n in
    elim (cases_lt k n) [
      | inl l ↦ get_or_append_left (pattern seed n) (next ∷ []) 0 k (omega arith) ∙ pattern_bit seed n k l
      | inr l ↦ (let e : n ≡ k = omega arith in get_or_push (pattern seed n) next 0 k (long ∙ e) ∙ ap (λ (j : ℕ). pattern_next seed (pattern seed j) j) e)
    ]

same_bit : (seed n m k : ℕ) → k < n → k < m → get_or (pattern seed n) k 0 ≡ get_or (pattern seed m) k 0
same_bit seed n m k h l = pattern_bit seed n k h ∙ sym (pattern_bit seed m k l)

-- the first eleven bits are those of the seed
pub pattern_early : (seed n k : ℕ) → k < n → k < 11 → get_or (pattern seed n) k 0 ≡ seed / 2 ^ k % 2
pattern_early seed n k h l = pattern_bit seed n k h ∙ next_early seed k (pattern seed k) l

-- each later one is the sum of two before it
pub pattern_later : (seed n k : ℕ) → k < n → 11 ≤ k → get_or (pattern seed n) k 0 ≡ (get_or (pattern seed n) (k - 9) 0 + get_or (pattern seed n) (k - 11) 0) % 2
pattern_later seed n k h l =
    let nine = same_bit seed k n (k - 9) (omega arith) (omega arith) in
    let eleven = same_bit seed k n (k - 11) (omega arith) (omega arith) in
    pattern_bit seed n k h ∙ next_later seed k (pattern seed k) l
    ∙ ap (λ (y : ℕ). (y + get_or (pattern seed k) (k - 11) 0) % 2) nine ∙ ap (λ (y : ℕ). (get_or (pattern seed n) (k - 9) 0 + y) % 2) eleven
