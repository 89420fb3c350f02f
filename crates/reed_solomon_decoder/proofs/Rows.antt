-- Elimination of one window from the rows.
use Rattle.std.proofs.Common.{◌≡◌, ℕ, zero, suc, ◌+◌, ◌<◌, ◌≤◌, ◌≢◌, ◌==◌, eqb, lt-ltb, Bool, true, false, cond, not, nat_lt, inl, inr, Some, None, Option, position, List, [], ◌∷◌, length, ◌++◌, ◌-◌, length-take-le, length-drop, get_or, get_or-take, get_or-drop, take, drop, sym, refl, ap, ◌∙◌, subst, ap₂, not-suc-le-zero, arith, lit<}
use native.Mathlib.Decide.{dec_lt, ℕ_discrete}
use borrow.Rule.Slice.PartMut.{mid_of, put_mid, post_of, same_len_mid}
use Rattle.std.proofs.Math.ListN.{get_or-append}
use Rattle.std.proofs.lemmas.List.{get_or-append_right}
use Rattle.std.specs.List.{position_or_len, RotatedLeft}
use Rattle.reed_solomon_decoder.proofs.Places.{eq_false}
use Rattle.std.proofs.lemmas.Bool.{cases_lt}
use Rattle.std.proofs.lemmas.List.Quantifiers.{position-Some}
use Rattle.std.proofs.lemmas.List.Sums.{fails_before_first}
use lib.Bits.{bit_xor, xor_lt, xor_self, xor_zero_r}
use Rattle.field.proofs.Linear.{xor4}
use Rattle.field.proofs.Laws.{mul_xor_r, mul_xor_l, mul_lt, mul_comm, mul_assoc, mul_one_r, mul_zero_r}
use Rattle.field.proofs.Powers.{mul_inv}
use Rattle.field.specs.Field.{inv, mul}
use Rattle.reed_solomon_algebra.specs.Polynomials.{Elements}
use Rattle.reed_solomon_decoder.specs.Errors.{dot}
use Rattle.reed_solomon_decoder.specs.Kernel.{Fresh, Kernel, Kills, Locator, Plus, Reduced}

suc_inj : (a b : ℕ) → suc a ≡ suc b → a ≡ b
suc_inj a b e = omega arith

pub dot_plus : (r v w s : List ℕ) (c : ℕ) → length r ≡ length v → length w ≡ length v → Plus r v c w
    → dot r s ≡ bit_xor (dot v s) (mul c (dot w s))
unfolding dot
dot_plus [] [] [] s c a b p = sym (mul_zero_r c)
dot_plus [] [] (z ∷ w) s c a b p = let f : ⊥ = omega arith in absurd f
dot_plus [] (y ∷ v) w s c a b p = let f : ⊥ = omega arith in absurd f
dot_plus (x ∷ r) [] w s c a b p = let f : ⊥ = omega arith in absurd f
dot_plus (x ∷ r) (y ∷ v) [] s c a b p = let f : ⊥ = omega arith in absurd f
dot_plus (x ∷ r) (y ∷ v) (z ∷ w) [] c a b p = sym (mul_zero_r c)
dot_plus (x ∷ r) (y ∷ v) (z ∷ w) (q ∷ s) c a b p =
    ap₂ bit_xor
    (ap (λ (n : ℕ). mul n q) (p 0) ∙ mul_xor_l y (mul c z) q ∙ ap (bit_xor (mul y q)) (mul_assoc c z q))
    (dot_plus r v w s c (suc_inj (length r) (length v) a) (suc_inj (length w) (length v) b) (λ k. p (suc k)))
    ∙ xor4 (mul y q) (mul c (mul z q)) (dot v s) (mul c (dot w s))
    ∙ ap (bit_xor (bit_xor (mul y q) (dot v s))) (sym (mul_xor_r c (mul z q) (dot w s)))

pub dot_lt : (p s : List ℕ) → dot p s < 1024
unfolding dot
dot_lt [] s = lit< tt
dot_lt (c ∷ p) [] = lit< tt
dot_lt (c ∷ p) (b ∷ s) = xor_lt 10 (mul c b) (dot p s) (mul_lt c b) (dot_lt p s)

-- the multiple of d that takes e away
pub takes_away : (e d : ℕ) → e < 1024 → d < 1024 → 0 < d → bit_xor e (mul (mul e (inv d)) d) ≡ 0
takes_away e d he hd p =
    ap (bit_xor e) (mul_assoc e (inv d) d ∙ ap (mul e) (mul_comm (inv d) d ∙ mul_inv d p hd) ∙ mul_one_r e he) ∙ xor_self e

pub plus_elements : (r v w : List ℕ) (c : ℕ) → Plus r v c w → Elements v → Elements r
plus_elements r v w c p b k = subst (λ (n : ℕ). n < 1024) (sym (p k)) (xor_lt 10 (get_or v k 0) (mul c (get_or w k 0)) (b k) (mul_lt c (get_or w k 0)))

pub plus_kills : (s r v w : List ℕ) (c j : ℕ) → length r ≡ length v → length w ≡ length v → Plus r v c w → Kills s v j → Kills s w j → Kills s r j
plus_kills s r v w c j a b p kv kw i h =
    dot_plus r v w (drop i s) c a b p ∙ ap₂ bit_xor (kv i h) (ap (mul c) (kw i h) ∙ mul_zero_r c)

-- where w is zero, r is what v is
pub plus_same : (r v w : List ℕ) (c d : ℕ) → Plus r v c w → get_or w d 0 ≡ 0 → get_or r d 0 ≡ get_or v d 0
plus_same r v w c d p z = p d ∙ ap (bit_xor (get_or v d 0)) (ap (mul c) z ∙ mul_zero_r c) ∙ xor_zero_r (get_or v d 0)

-- a window of as many symbols as the row has is as good as all that follows
pub dot_take : (u s : List ℕ) (n : ℕ) → length u ≤ n → dot u (take n s) ≡ dot u s
unfolding dot
dot_take [] s n h = refl
dot_take (c ∷ u) s zero h = let f : ⊥ = omega arith in absurd f
dot_take (c ∷ u) [] (suc n) h = refl
dot_take (c ∷ u) (b ∷ s) (suc n) h = ap (bit_xor (mul c b)) (dot_take u s n (omega arith))

kills_more : (s u : List ℕ) (j : ℕ) → Kills s u j → dot u (drop j s) ≡ 0 → Kills s u (j + 1)
kills_more s u j k z = borrow.Author.Count.below_more (λ (i : ℕ). dot u (drop i s) ≡ 0) j k z

module _ (w : ℕ) (s window : List ℕ) (j last p : ℕ) (rows out : List (List ℕ)) (is : window ≡ take w (drop j s))
    (kernel : Kernel w s j (last + 1) rows) (pl : p ≤ last)
    (clear : (i : ℕ) → i < p → dot (get_or rows i []) window ≡ 0)
    (kept : (i : ℕ) → i < p → get_or out i [] ≡ get_or rows i [])
    (moved : (i : ℕ) → p ≤ i → i < last → Reduced window (get_or out i []) (get_or rows (i + 1) []) (get_or rows p [])) where
  same_width : (i : ℕ) → i < last → length (get_or rows p []) ≡ length (get_or rows (i + 1) [])
  same_width i h = kernel.wide p (omega arith) ∙ sym (kernel.wide (i + 1) (omega arith))

  seen_whole : (u : List ℕ) → length u ≡ w → dot u window ≡ 0 → dot u (drop j s) ≡ 0
  seen_whole u e z = sym (ap (dot u) is ∙ dot_take u (drop j s) w (omega arith)) ∙ z

  step_wide : (i : ℕ) → i < last → length (get_or out i []) ≡ w
  step_wide i h =
      elim (dec_lt i p) [
        | yes q ↦ ap length (kept i q) ∙ kernel.wide i (omega arith)
        | no q ↦ (moved i (omega arith) h).wide ∙ kernel.wide (i + 1) (omega arith)
      ]

  step_elements : (i : ℕ) → i < last → Elements (get_or out i [])
  step_elements i h =
      elim (dec_lt i p) [
        | yes q ↦ subst Elements (sym (kept i q)) (kernel.elements i (omega arith))
        | no q ↦
            let m = moved i (omega arith) h in
            plus_elements (get_or out i []) (get_or rows (i + 1) []) (get_or rows p []) m.by m.plus (kernel.elements (i + 1) (omega arith))
      ]

  step_kills : (i : ℕ) → i < last → Kills s (get_or out i []) (j + 1)
  step_kills i h =
      elim (dec_lt i p) [
        | yes q ↦
            subst (λ (u : List ℕ). Kills s u (j + 1)) (sym (kept i q))
            (kills_more s (get_or rows i []) j (kernel.kills i (omega arith)) (seen_whole (get_or rows i []) (kernel.wide i (omega arith)) (clear i q)))
        | no q ↦
            let m = moved i (omega arith) h in
            kills_more s (get_or out i []) j
            (plus_kills s (get_or out i []) (get_or rows (i + 1) []) (get_or rows p []) m.by j m.wide (same_width i h) m.plus
            (kernel.kills (i + 1) (omega arith)) (kernel.kills p (omega arith)))
            (seen_whole (get_or out i []) (step_wide i h) m.gone)
      ]

  -- what stands at d in the rows that come out, where the pivot has nothing
  seen : (d i : ℕ) → p ≤ i → i < last → get_or (get_or rows p []) d 0 ≡ 0 → get_or (get_or out i []) d 0 ≡ get_or (get_or rows (i + 1) []) d 0
  seen d i q h z =
      let m = moved i q h in plus_same (get_or out i []) (get_or rows (i + 1) []) (get_or rows p []) m.by d m.plus z

  step_fresh : (i : ℕ) → i < last → Fresh out i
  step_fresh i h =
      elim (dec_lt i p) [
        | yes q ↦
            let f = kernel.fresh i (omega arith) in (
              f.0,
              (λ e. f.1 (ap (λ (u : List ℕ). get_or u f.0 0) (sym (kept i q)) ∙ e)),
              (λ g l. ap (λ (u : List ℕ). get_or u f.0 0) (kept g (omega arith)) ∙ f.2 g l),
            )
        | no q ↦
            let f = kernel.fresh (i + 1) (omega arith) in
            let none : get_or (get_or rows p []) f.0 0 ≡ 0 = f.2 p (omega arith) in (
              f.0,
              (λ e. f.1 (sym (seen f.0 i (omega arith) h none) ∙ e)),
              (λ g l. elim (dec_lt g p) [
                | yes a ↦ ap (λ (u : List ℕ). get_or u f.0 0) (kept g a) ∙ f.2 g (omega arith)
                | no a ↦ seen f.0 g (omega arith) (omega arith) none ∙ f.2 (g + 1) (omega arith)
              ]),
            )
      ]

  pub kernel_step : Kernel w s (j + 1) last out
  kernel_step = record { wide = step_wide; elements = step_elements; kills = step_kills; fresh = step_fresh }

pub kernel_found : (w : ℕ) (s : List ℕ) (j : ℕ) (rows : List (List ℕ)) → Kernel w s j 1 rows → Locator w s j (get_or rows 0 [])
kernel_found w s j rows k =
    record {
      wide = k.wide 0 (lit< tt);
      elements = k.elements 0 (lit< tt);
      kills = k.kills 0 (lit< tt);
      nonzero = λ z. (k.fresh 0 (lit< tt)).1 (z (k.fresh 0 (lit< tt)).0);
    }

-- the row that the code makes
pub reduced_row : (window r v w : List ℕ) (e d i c : ℕ) → length r ≡ length v → length w ≡ length v
    → e ≡ dot v window → d ≡ dot w window → 0 < dot w window → i ≡ inv d → c ≡ mul e i → Plus r v c w → Reduced window r v w
reduced_row window r v w e d i c a b he hd pos hi hc plus =
    record {
      by = c;
      wide = a;
      plus = plus;
      gone =
          dot_plus r v w window c a b plus
          ∙ ap (λ (n : ℕ). bit_xor (dot v window) (mul n (dot w window))) (hc ∙ ap₂ mul he (hi ∙ ap inv hd))
          ∙ takes_away (dot v window) (dot w window) (dot_lt v window) (dot_lt w window) pos;
    }

-- ---- the rows to begin with

pub record IsUnit (w i : ℕ) (r : List ℕ) : Type 0 where
  pub wide : length r ≡ w
  pub here : get_or r i 0 ≡ 1
  pub other : (k : ℕ) → k ≢ i → get_or r k 0 ≡ 0

pub unit_elements : (w i : ℕ) (r : List ℕ) → IsUnit w i r → Elements r
unit_elements w i r u k =
    elim (ℕ_discrete k i) [
      | yes e ↦ subst (λ (n : ℕ). n < 1024) (sym (ap (λ (m : ℕ). get_or r m 0) e ∙ u.here)) (lit< tt)
      | no ne ↦ subst (λ (n : ℕ). n < 1024) (sym (u.other k ne)) (lit< tt)
    ]

pub kernel_start : (w n : ℕ) (s : List ℕ) (rows : List (List ℕ)) → ((i : ℕ) → i < n → IsUnit w i (get_or rows i [])) → Kernel w s 0 n rows
kernel_start w n s rows u =
    record {
      wide = λ i h. (u i h).wide;
      elements = λ i h. unit_elements w i (get_or rows i []) (u i h);
      kills = λ i h j l. absurd (not-suc-le-zero l);
      fresh = λ i h. (
        i,
        (λ e. let z : ◌≡◌ {A = ℕ} 1 0 = sym (u i h).here ∙ e in let f : ⊥ = omega arith in f),
        (λ g l. let ne : i ≢ g = omega arith in (u g (omega arith)).other i ne),
      );
    }

-- ---- the pivot

position-None : {X : Type 0} (p : X → Bool) (xs : List X) (k : ℕ) (d : X) → position p xs ≡ None → k < length xs → p (get_or xs k d) ≡ false
position-None p xs k d e h = elim (cases_lt (position_or_len p xs) (length xs)) [
  | inl l ↦ let t : nat_lt (position_or_len p xs) (length xs) ≡ true = lt-ltb (position_or_len p xs) (length xs) l in
      absurd (no_some (sym (ap (λ (b : Bool). cond b (Some (position_or_len p xs)) None) t) ∙ e))
  | inr r ↦ fails_before_first p xs k d (omega arith)
]
  where
    no_some : {n : ℕ} → Some n ≡ None → ⊥
    no_some e = cc

module _ (rows : List (List ℕ)) (v : List ℕ) (last : ℕ) (here : last ≤ length rows) where
  abbrev pub left : List ℕ → Bool
  left row = not (dot row v == 0)

  abbrev pub first : Option ℕ
  first = position left (take last rows)

  nothing_left : (n : ℕ) → not (n == 0) ≡ false → n ≡ 0
  nothing_left zero e = refl
  nothing_left (suc n) e = let none : eqb (suc n) 0 ≡ false = eq_false (suc n) 0 (λ q. absurd (omega arith)) in absurd (true_not_false (sym (ap not none) ∙ e))
    where
      true_not_false : true ≡ false → ⊥
      true_not_false q = cc

  something_left : (n : ℕ) → not (n == 0) ≡ true → 0 < n
  something_left zero e = cc
  something_left (suc n) e = omega arith

  pub pivot_within : (i : ℕ) → first ≡ Some i → i < last
  pivot_within i e = omega (arith, (position-Some left (take last rows) i [] e).0, length-take-le last rows here)

  pub pivot_found : (i : ℕ) → first ≡ Some i → 0 < dot (get_or rows i []) v
  pivot_found i e =
      something_left (dot (get_or rows i []) v)
      (subst (λ (row : List ℕ). left row ≡ true) (get_or-take last rows i [] (pivot_within i e)) (position-Some left (take last rows) i [] e).1)

  pub pivot_clear : (i : ℕ) → first ≡ Some i → (k : ℕ) → k < i → dot (get_or rows k []) v ≡ 0
  pivot_clear i e k h =
      nothing_left (dot (get_or rows k []) v)
      (subst (λ (row : List ℕ). left row ≡ false) (get_or-take last rows k [] (omega (arith, pivot_within i e))) ((position-Some left (take last rows) i [] e).2 k h))

  pub none_clear : first ≡ None → (k : ℕ) → k < last → dot (get_or rows k []) v ≡ 0
  none_clear e k h =
      nothing_left (dot (get_or rows k []) v)
      (subst (λ (row : List ℕ). left row ≡ false) (get_or-take last rows k [] h)
      (position-None left (take last rows) k [] e (omega (arith, length-take-le last rows here))))

-- ---- what turning the pivot behind the rows up to `last`, and then changing those before it, leaves

module _ {X : Type 0} (a k : ℕ) (xs ys : List X) (inside : a ≤ length xs) where
  before_part : (i : ℕ) (d : X) → i < a → get_or (put_mid a k xs ys) i d ≡ get_or xs i d
  before_part i d h = get_or-append (take a xs) _ d i (omega (arith, length-take-le a xs inside)) ∙ get_or-take a xs i d h

  at_part : (i : ℕ) (d : X) → i < length ys → get_or (put_mid a k xs ys) (a + i) d ≡ get_or ys i d
  at_part i d h =
      get_or-append_right (take a xs) _ a (a + i) d (length-take-le a xs inside) (omega arith)
      ∙ ap (λ (n : ℕ). get_or (ys ++ post_of a k xs) n d) (omega arith) ∙ get_or-append ys _ d i h

in_part : {X : Type 0} (a k : ℕ) (xs : List X) (i : ℕ) (d : X) → i < k → get_or (mid_of a k xs) i d ≡ get_or xs (a + i) d
in_part a k xs i d h = get_or-take k (drop a xs) i d h ∙ get_or-drop a xs i d

part_length : {X : Type 0} (a k : ℕ) (xs : List X) → a + k ≤ length xs → length (mid_of a k xs) ≡ k
part_length a k xs h = length-take-le k (drop a xs) (omega (arith, length-drop a xs))

module _ {X : Type 0} (xs turned part : List X) (first last : ℕ) (inside : last < length xs) (d : X)
    (turns : RotatedLeft (mid_of first (last + 1 - first) xs) turned (length (mid_of first (last + 1 - first) xs)) 1)
    (long : length turned ≡ length (mid_of first (last + 1 - first) xs))
    (part_long : length part ≡ length (mid_of first (last - first) (put_mid first (last + 1 - first) xs turned))) where
  abbrev pub behind : List X
  behind = put_mid first (last + 1 - first) xs turned

  same : length behind ≡ length xs
  same = same_len_mid first (last + 1 - first) xs turned long

  pub turned_long : first ≤ last → length (mid_of first (last - first) behind) ≡ last - first
  turned_long f = part_length first (last - first) behind (omega (arith, same))

  pub turned_kept : first ≤ last → (i : ℕ) → i < first → get_or (put_mid first (last - first) behind part) i d ≡ get_or xs i d
  turned_kept f i h =
      before_part first (last - first) behind part (omega (arith, same)) i d h
      ∙ before_part first (last + 1 - first) xs turned (omega arith) i d h

  pub turned_part : first ≤ last → (i : ℕ) → first ≤ i → i < last → get_or (put_mid first (last - first) behind part) i d ≡ get_or part (i - first) d
  turned_part f i l h =
      ap (λ (n : ℕ). get_or (put_mid first (last - first) behind part) n d) (omega arith)
      ∙ at_part first (last - first) behind part (omega (arith, same)) (i - first) d
      (omega (arith, part_long, turned_long f))

  pub turned_next : first ≤ last → (i : ℕ) → first ≤ i → i < last → get_or (mid_of first (last - first) behind) (i - first) d ≡ get_or xs (i + 1) d
  turned_next f i l h =
      let whole : length (mid_of first (last + 1 - first) xs) ≡ last + 1 - first = part_length first (last + 1 - first) xs (omega arith) in
      in_part first (last - first) behind (i - first) d (omega arith)
      ∙ at_part first (last + 1 - first) xs turned (omega arith) (i - first) d (omega (arith, long))
      ∙ turns.0 (i - first) d (omega arith)
      ∙ in_part first (last + 1 - first) xs (i - first + 1) d (omega arith)
      ∙ ap (λ (n : ℕ). get_or xs n d) (omega arith)
