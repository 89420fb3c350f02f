-- Values read off at places that cover an explanation have its sums.
use Rattle.std.proofs.Common.{◌≡◌, ℕ, zero, suc, ◌+◌, ◌<◌, ◌≤◌, Bool, true, false, cond, eqb, List, [], ◌∷◌, length, get_or, sym, refl, ap, ◌∙◌, subst, ap₂, inl, inr, arith}
use lib.Bits.{bit_xor, xor_zero_r}
use Rattle.field.proofs.Linear.{xor4}
use Rattle.field.proofs.Laws.{mul_xor_l, mul_zero_l}
use Rattle.reed_solomon_decoder.proofs.Weighing.{locator}
use Rattle.reed_solomon_decoder.proofs.Places.{eq_true, eq_false, roots_differ, roots_are, roots_few, located_covered}
use Rattle.field.specs.Field.{mul, pow}
use Rattle.reed_solomon_algebra.specs.Polynomials.{Elements, value}
use Rattle.reed_solomon_algebra.specs.Terms.{Apart, Away, Differ, Distinct, Placed, Powers, Small, Term, power_sum, terms}
use Rattle.reed_solomon_decoder.specs.Errors.{Agrees, Covered, Explains, Has, Roots, SumsFrom, at, roots_below}
use Rattle.reed_solomon_decoder.specs.Kernel.{Locator}

-- any sum over the terms
sum_by : (ℕ → ℕ → ℕ) → List Term → ℕ
sum_by φ [] = 0
sum_by φ (t ∷ ts) = bit_xor (φ t.coef t.place) (sum_by φ ts)

unfoldable pub read_at : List Term → List ℕ → List Term
read_at e [] = []
read_at e (x ∷ xs) = record { coef = at x e; place = x } ∷ read_at e xs

-- d at the place p, if it is among xs, and nothing elsewhere
spike : ℕ → ℕ → List ℕ → List Term
spike d p [] = []
spike d p (x ∷ xs) = record { coef = cond (eqb p x) d 0; place = x } ∷ spike d p xs

module _ (φ : ℕ → ℕ → ℕ) (adds : (a b p : ℕ) → φ (bit_xor a b) p ≡ bit_xor (φ a p) (φ b p)) (none : (p : ℕ) → φ 0 p ≡ 0) where
  read_nil : (xs : List ℕ) → sum_by φ (read_at [] xs) ≡ 0
  unfolding sum_by read_at at
  read_nil [] = refl
  read_nil (x ∷ xs) = ap₂ bit_xor (none x) (read_nil xs)

  read_cons : (t : Term) (ts : List Term) (xs : List ℕ)
      → sum_by φ (read_at (t ∷ ts) xs) ≡ bit_xor (sum_by φ (spike t.coef t.place xs)) (sum_by φ (read_at ts xs))
  unfolding sum_by read_at spike at
  read_cons t ts [] = refl
  read_cons t ts (x ∷ xs) =
      ap₂ bit_xor (adds (cond (eqb t.place x) t.coef 0) (at x ts) x) (read_cons t ts xs)
      ∙ xor4 (φ (cond (eqb t.place x) t.coef 0) x) (φ (at x ts) x) (sum_by φ (spike t.coef t.place xs)) (sum_by φ (read_at ts xs))

  spike_away : (d p : ℕ) (xs : List ℕ) → Away p xs → sum_by φ (spike d p xs) ≡ 0
  unfolding sum_by spike
  spike_away d p [] a = refl
  spike_away d p (x ∷ xs) a =
      ap₂ bit_xor
      (ap (λ (b : Bool). φ (cond b d 0) x) (eq_false p x (λ e. a.0 (sym e))) ∙ none x)
      (spike_away d p xs a.1)

  spike_has : (d p : ℕ) (xs : List ℕ) → Differ xs → Has p xs → sum_by φ (spike d p xs) ≡ φ d p
  unfolding sum_by spike
  spike_has d p [] f h = absurd h
  spike_has d p (x ∷ xs) f h =
      elim h [
        | inl e ↦
            ap₂ bit_xor (ap₂ (λ (b : Bool) (y : ℕ). φ (cond b d 0) y) (eq_true p x (sym e)) e)
            (spike_away d p xs (subst (λ (y : ℕ). Away y xs) e f.0))
            ∙ xor_zero_r (φ d p)
        | inr i ↦
            ap₂ bit_xor (ap (λ (b : Bool). φ (cond b d 0) x) (eq_false p x (λ e. miss x xs f.0 (subst (λ (y : ℕ). Has y xs) e i))) ∙ none x)
            (spike_has d p xs f.1 i)
      ]
    where
      miss : (y : ℕ) (ys : List ℕ) → Away y ys → Has y ys → ⊥
      miss y [] a i = i
      miss y (z ∷ zs) a i = elim i [ inl e ↦ a.0 e | inr j ↦ miss y zs a.1 j ]

  spike_null : (d p : ℕ) (xs : List ℕ) → d ≡ 0 → sum_by φ (spike d p xs) ≡ 0
  unfolding sum_by spike
  spike_null d p [] z = refl
  spike_null d p (x ∷ xs) z = ap₂ bit_xor (go (eqb p x)) (spike_null d p xs z)
    where
      go : (b : Bool) → φ (cond b d 0) x ≡ 0
      go true = ap (λ (y : ℕ). φ y x) z ∙ none x
      go false = none x

  read_sum : (xs : List ℕ) (e : List Term) → Differ xs → Covered xs e → sum_by φ (read_at e xs) ≡ sum_by φ e
  unfolding sum_by
  read_sum xs [] d v = read_nil xs
  read_sum xs (t ∷ ts) d v =
      read_cons t ts xs
      ∙ ap₂ bit_xor
      (elim v.0 [
        | inl z ↦ spike_null t.coef t.place xs z ∙ sym (ap (λ (y : ℕ). φ y t.place) z ∙ none t.place)
        | inr i ↦ spike_has t.coef t.place xs d i
      ])
      (read_sum xs ts d v.1)

-- ---- the power sums

powers : ℕ → ℕ → ℕ → ℕ
powers j d p = mul d (pow p j)

powers_adds : (j a b p : ℕ) → powers j (bit_xor a b) p ≡ bit_xor (powers j a p) (powers j b p)
unfolding powers
powers_adds j a b p = mul_xor_l a b (pow p j)

powers_none : (j p : ℕ) → powers j 0 p ≡ 0
unfolding powers
powers_none j p = mul_zero_l (pow p j)

sum_powers : (j : ℕ) (ts : List Term) → sum_by (powers j) ts ≡ power_sum j ts
unfolding sum_by powers power_sum
sum_powers j [] = refl
sum_powers j (t ∷ ts) = ap (bit_xor (mul t.coef (pow t.place j))) (sum_powers j ts)

pub read_powers : (j : ℕ) (xs : List ℕ) (e : List Term) → Differ xs → Covered xs e → power_sum j (read_at e xs) ≡ power_sum j e
read_powers j xs e d v =
    sym (sum_powers j (read_at e xs)) ∙ read_sum (powers j) (powers_adds j) (powers_none j) xs e d v ∙ sum_powers j e

-- ---- what the code has

terms_read : (vs xs : List ℕ) (e : List Term) → length xs ≤ length vs → ((i : ℕ) → i < length xs → get_or vs i 0 ≡ at (get_or xs i 0) e) → terms vs xs ≡ read_at e xs
unfolding terms read_at
terms_read [] [] e l h = refl
terms_read [] (x ∷ xs) e l h = let f : ⊥ = omega arith in absurd f
terms_read (v ∷ vs) [] e l h = refl
terms_read (v ∷ vs) (x ∷ xs) e l h =
    ap₂ (λ (y : ℕ) (r : List Term). record { coef = y; place = x } ∷ r) (h 0 (omega arith)) (terms_read vs xs e (omega arith) (λ i q. h (suc i) (omega arith)))

terms_length : (vs xs : List ℕ) → length (terms vs xs) ≤ length xs
unfolding terms
terms_length [] xs = omega arith
terms_length (v ∷ vs) [] = omega arith
terms_length (v ∷ vs) (x ∷ xs) = omega (arith, terms_length vs xs)

terms_small : (vs xs u : List ℕ) → Elements vs → Roots u xs → Small (terms vs xs)
unfolding terms
terms_small [] xs u b r = tt
terms_small (v ∷ vs) [] u b r = tt
terms_small (v ∷ vs) (x ∷ xs) u b r = (b 0, r.0, terms_small vs xs u (λ k. b (suc k)) r.2)

terms_apart : (y : ℕ) (vs xs : List ℕ) → Away y xs → Apart y (terms vs xs)
unfolding terms
terms_apart y [] xs a = tt
terms_apart y (v ∷ vs) [] a = tt
terms_apart y (v ∷ vs) (x ∷ xs) a = (a.0, terms_apart y vs xs a.1)

terms_distinct : (vs xs : List ℕ) → Differ xs → Distinct (terms vs xs)
unfolding terms
terms_distinct [] xs d = tt
terms_distinct (v ∷ vs) [] d = tt
terms_distinct (v ∷ vs) (x ∷ xs) d = (terms_apart x vs xs d.0, terms_distinct vs xs d.1)

roots_powers : (u : List ℕ) (m n : ℕ) → n ≤ m → Powers m (roots_below u n)
unfolding roots_below
roots_powers u m zero l = tt
roots_powers u m (suc n) l = go (roots_powers u m n (omega arith)) (eqb (value (pow 2 n) u) 0)
  where
    go : Powers m (roots_below u n) → (b : Bool) → Powers m (cond b (pow 2 n ∷ roots_below u n) (roots_below u n))
    go r true = ((n, omega arith, refl), r)
    go r false = r

terms_placed : (n : ℕ) (vs xs : List ℕ) → Powers n xs → Placed n (terms vs xs)
unfolding terms
terms_placed n [] xs p = tt
terms_placed n (v ∷ vs) [] p = tt
terms_placed n (v ∷ vs) (x ∷ xs) p = (p.0, terms_placed n vs xs p.1)

-- Soundness: what passes the check explains the syndromes.
pub sound : (t n : ℕ) (s u vs : List ℕ) → n ≤ 1023 → Locator (suc t) s t u → Elements vs → SumsFrom 0 s (terms vs (roots_below u n))
    → Explains t n s (terms vs (roots_below u n))
sound t n s u vs h l b sums =
    record {
      few = omega (arith, terms_length vs (roots_below u n), roots_few u n t h l.elements l.wide l.nonzero);
      small = terms_small vs (roots_below u n) u b (roots_are u n);
      distinct = terms_distinct vs (roots_below u n) (roots_differ u n h);
      placed = terms_placed n vs (roots_below u n) (roots_powers u n n (omega arith));
      sums = sums;
    }

-- the places found cover every explanation
pub covers : (t n : ℕ) (s u : List ℕ) (e : List Term) → length s ≡ t + t → Locator (suc t) s t u → Explains t n s e → Covered (roots_below u n) e
covers t n s u e ls l x =
    located_covered u n e x.placed
    (locator t u s e l.elements x.small x.distinct x.few (omega (arith, l.wide)) x.sums l.kills)

-- Completeness: if anything explains the syndromes, what was found has the same sums.
module _ (t n : ℕ) (s u vs : List ℕ) (e : List Term) (h : n ≤ 1023) (ls : length s ≡ t + t) (l : Locator (suc t) s t u) (x : Explains t n s e)
    (lv : length (roots_below u n) ≤ length vs)
    (agree : (i : ℕ) → i < length (roots_below u n) → Agrees s (roots_below u n) (get_or (roots_below u n) i 0) (get_or vs i 0)) where
  same : terms vs (roots_below u n) ≡ read_at e (roots_below u n)
  same = terms_read vs (roots_below u n) e lv (λ i q. agree i q e x.small (covers t n s u e ls l x) x.sums)

  pub complete : SumsFrom 0 s (terms vs (roots_below u n))
  complete k q =
      x.sums k q ∙ sym (ap (power_sum (0 + k)) same ∙ read_powers (0 + k) (roots_below u n) e (roots_differ u n h) (covers t n s u e ls l x))

-- ---- the same, with the places as the code holds them

abbrev AllAgree : List ℕ → List ℕ → List ℕ → Type 0
AllAgree s xs vs = (i : ℕ) → i < length xs → Agrees s xs (get_or xs i 0) (get_or vs i 0)

module _ (t n : ℕ) (s u vs : List ℕ) (h : n ≤ 1023) (ls : length s ≡ t + t) (l : Locator (suc t) s t u) where
  pub passes : (xs : List ℕ) → xs ≡ roots_below u n → Elements vs → SumsFrom 0 s (terms vs xs) → Explains t n s (terms vs xs)
  passes xs is b =
      subst (λ (ys : List ℕ). SumsFrom 0 s (terms vs ys) → Explains t n s (terms vs ys)) (sym is) (sound t n s u vs h l b)

  pub must_pass : (xs : List ℕ) → xs ≡ roots_below u n → length xs ≤ length vs → AllAgree s xs vs
      → (e : List Term) → Explains t n s e → SumsFrom 0 s (terms vs xs)
  must_pass xs is =
      subst (λ (ys : List ℕ). length ys ≤ length vs → AllAgree s ys vs → (e : List Term) → Explains t n s e → SumsFrom 0 s (terms vs ys))
      (sym is) (λ lv agree e x. complete t n s u vs e h ls l x lv agree)
