-- The places that the search finds.
use Rattle.std.proofs.Common.{◌≡◌, ℕ, zero, suc, ◌<◌, ◌≤◌, Bool, true, false, cond, T, eqb, ◌≢◌, List, [], ◌∷◌, length, get_or, sym, refl, ap, ◌∙◌, subst, inl, inr, le_of_suc-le-suc, not-suc-le-zero, arith, eqb→eq}
use native.Mathlib.Decide.{dec_lt, ℕ_discrete}
use lib.Dec.{eqb_refl}
use Rattle.field.proofs.Powers.{pow_lt, pow_two_apart}
use Rattle.reed_solomon_decoder.proofs.Roots.{roots_null}
use Rattle.field.specs.Field.{pow}
use Rattle.reed_solomon_algebra.specs.Polynomials.{Elements, value}
use Rattle.reed_solomon_algebra.specs.Terms.{Away, Differ, Placed, Term}
use Rattle.reed_solomon_decoder.specs.Errors.{Covered, Has, Located, Null, Roots, roots_below}

pub eq_true : (a b : ℕ) → a ≡ b → eqb a b ≡ true
eq_true a b e = go (eqb a b) refl
  where
    go : (v : Bool) → eqb a b ≡ v → v ≡ true
    go true _ = refl
    go false q = absurd (subst T q (subst (λ (y : ℕ). T (eqb a y)) e (eqb_refl a)))

pub eq_false : (a b : ℕ) → a ≢ b → eqb a b ≡ false
eq_false a b ne = go (eqb a b) refl
  where
    go : (v : Bool) → eqb a b ≡ v → v ≡ false
    go true q = absurd (ne (eqb→eq a b (subst T (sym q) tt)))
    go false _ = refl

pub roots_yes : (u : List ℕ) (n : ℕ) → value (pow 2 n) u ≡ 0 → roots_below u (suc n) ≡ pow 2 n ∷ roots_below u n
unfolding roots_below
roots_yes u n e = ap (λ (v : ℕ). cond (eqb v 0) (pow 2 n ∷ roots_below u n) (roots_below u n)) e

pub roots_no : (u : List ℕ) (n : ℕ) → value (pow 2 n) u ≢ 0 → roots_below u (suc n) ≡ roots_below u n
unfolding roots_below
roots_no u n ne = ap (λ (b : Bool). cond b (pow 2 n ∷ roots_below u n) (roots_below u n)) (eq_false (value (pow 2 n) u) 0 ne)

roots_away : (u : List ℕ) (m n : ℕ) → n ≤ m → m < 1023 → Away (pow 2 m) (roots_below u n)
unfolding roots_below
roots_away u m zero l h = tt
roots_away u m (suc n) l h = go (roots_away u m n (omega arith) h) (eqb (value (pow 2 n) u) 0)
  where
    go : Away (pow 2 m) (roots_below u n) → (b : Bool) → Away (pow 2 m) (cond b (pow 2 n ∷ roots_below u n) (roots_below u n))
    go r true = (pow_two_apart n m (omega arith) h, r)
    go r false = r

pub roots_differ : (u : List ℕ) (n : ℕ) → n ≤ 1023 → Differ (roots_below u n)
unfolding roots_below
roots_differ u zero h = tt
roots_differ u (suc n) h = go (roots_differ u n (omega arith)) (eqb (value (pow 2 n) u) 0)
  where
    go : Differ (roots_below u n) → (b : Bool) → Differ (cond b (pow 2 n ∷ roots_below u n) (roots_below u n))
    go r true = (roots_away u n n (omega arith) (omega arith), r)
    go r false = r

pub roots_are : (u : List ℕ) (n : ℕ) → Roots u (roots_below u n)
unfolding roots_below
roots_are u zero = tt
roots_are u (suc n) = go (roots_are u n) (eqb (value (pow 2 n) u) 0) refl
  where
    go : Roots u (roots_below u n) → (b : Bool) → eqb (value (pow 2 n) u) 0 ≡ b → Roots u (cond b (pow 2 n ∷ roots_below u n) (roots_below u n))
    go r true e = (pow_lt 2 n, eqb→eq (value (pow 2 n) u) 0 (subst T (sym e) tt), r)
    go r false e = r

-- no more roots than the degree
pub roots_few : (u : List ℕ) (n w : ℕ) → n ≤ 1023 → Elements u → length u ≡ suc w → (Null u → ⊥) → length (roots_below u n) ≤ w
roots_few u n w h b l nz =
    elim (dec_lt w (length (roots_below u n))) [
      | yes q ↦ absurd (nz (roots_null (roots_below u n) u b (roots_differ u n h) (roots_are u n) (omega arith)))
      | no q ↦ omega arith
    ]

further : (u : List ℕ) (x n : ℕ) → Has x (roots_below u n) → Has x (roots_below u (suc n))
unfolding roots_below
further u x n i = go (eqb (value (pow 2 n) u) 0)
  where
    go : (b : Bool) → Has x (cond b (pow 2 n ∷ roots_below u n) (roots_below u n))
    go true = inr i
    go false = i

roots_has : (u : List ℕ) (k n : ℕ) → k < n → value (pow 2 k) u ≡ 0 → Has (pow 2 k) (roots_below u n)
roots_has u k zero h z = absurd (not-suc-le-zero h)
roots_has u k (suc n) h z =
    elim (ℕ_discrete k n) [
      | yes e ↦ subst (Has (pow 2 k)) (sym (roots_yes u n (ap (λ (i : ℕ). value (pow 2 i) u) (sym e) ∙ z))) (inl (ap (pow 2) (sym e)))
      | no ne ↦ let ne' : k ≢ n = ne in further u (pow 2 k) n (roots_has u k n (omega arith) z)
    ]

pub located_covered : (u : List ℕ) (n : ℕ) (e : List Term) → Placed n e → Located u e → Covered (roots_below u n) e
located_covered u n [] p l = tt
located_covered u n (t ∷ ts) p l = (
  elim l.0 [
    | inl z ↦ inl z
    | inr z ↦ inr (subst (λ (x : ℕ). Has x (roots_below u n)) (sym p.0.2) (roots_has u p.0.0 n p.0.1 (ap (λ (y : ℕ). value y u) (sym p.0.2) ∙ z)))
  ],
  located_covered u n ts p.1 l.1,
)

-- ---- by index

away_at : (x : ℕ) (xs : List ℕ) (h : ℕ) → Away x xs → h < length xs → get_or xs h 0 ≢ x
away_at x [] h a l e = not-suc-le-zero l
away_at x (y ∷ ys) zero a l e = a.0 e
away_at x (y ∷ ys) (suc h) a l e = away_at x ys h a.1 (le_of_suc-le-suc l) e

pub differ_at : (xs : List ℕ) (h i : ℕ) → Differ xs → h < length xs → i < length xs → h ≢ i → get_or xs h 0 ≢ get_or xs i 0
differ_at [] h i d lh li ne e = not-suc-le-zero lh
differ_at (x ∷ xs) zero zero d lh li ne e = ne refl
differ_at (x ∷ xs) zero (suc i) d lh li ne e = away_at x xs i d.0 (le_of_suc-le-suc li) (sym e)
differ_at (x ∷ xs) (suc h) zero d lh li ne e = away_at x xs h d.0 (le_of_suc-le-suc lh) e
differ_at (x ∷ xs) (suc h) (suc i) d lh li ne e =
    differ_at xs h i d.1 (le_of_suc-le-suc lh) (le_of_suc-le-suc li) (λ q. ne (ap suc q)) e

pub has_at : (x : ℕ) (xs : List ℕ) → Has x xs → (h : ℕ) × (h < length xs) × (get_or xs h 0 ≡ x)
has_at x [] i = absurd i
has_at x (y ∷ ys) i =
    elim i [
      | inl e ↦ (0, omega arith, e)
      | inr j ↦ let r = has_at x ys j in (suc r.0, omega arith, r.2)
    ]
