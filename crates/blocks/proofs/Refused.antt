-- What a refused block shows, by its bit places.
use Rattle.std.proofs.Common.{◌≡◌, ℕ, zero, suc, ◌+◌, ◌-◌, ◌*◌, ◌/◌, ◌%◌, ◌^◌, ◌<◌, true, false, eqb, List, [], sym, refl, ap, ◌∙◌, subst, inl, inr, arith}
use Rattle.std.proofs.lemmas.Bool.{cases_Bool, eqb-true, eqb-false}
use Rattle.words.specs.Types.{listed}
use Rattle.words.specs.Raw.{Raw}
use Rattle.blocks.specs.Blocks.{field, bit, MarkedFirst, HasNoType, HasUnlisted, BlockRefused}
use Rattle.blocks.specs.Reading.{Reading, gives, refuses, before, read_whole, read_cut, read_block}
use Rattle.blocks.proofs.Bits.{field_above, bit_suc, low_four}
use Rattle.blocks.proofs.Places.{all_ones}
use Rattle.blocks.proofs.Steps.{whole_data, whole_control, whole_unlisted, cut_data, cut_control, cut_untyped}
use Rattle.blocks.specs.declared.refusal.BlockRefusal.{BlockRefusal}
use Rattle.blocks.specs.declared.refusal.BlockRefusal.TheVariants.{NoControl, NoType, Unlisted}

refused_before : (w : Raw) (r : Reading) (e : BlockRefusal) → before w r ≡ refuses e → r ≡ refuses e
refused_before w (gives ws) e q = let z : ◌≡◌ {A = ℕ} 0 1 = cc in absurd (omega arith)
refused_before w (refuses f) e q = q

never_refused : (ws : List Raw) (e : BlockRefusal) → gives ws ≡ refuses e → ⊥
never_refused ws e q = let z : ◌≡◌ {A = ℕ} 0 1 = cc in omega arith

-- n words from word j on, all bodies whole: word i of them is the lowest control word with an unlisted type

record Late (n j m x : ℕ) (e : BlockRefusal) : Type 0 where
  i : ℕ
  is : e ≡ Unlisted (j + i)
  within : i < n
  control : bit m i ≡ 0
  unlisted : listed (field x (64 * i) 8) ≡ false
  lowest : (k : ℕ) → k < i → bit m k ≡ 0 → listed (field x (64 * k) 8) ≡ true

type_above : (x i : ℕ) → field x (64 * suc i) 8 ≡ field (x / 2 ^ 64) (64 * i) 8
type_above x i = let e : 64 * suc i ≡ 64 + 64 * i = omega arith in rw e (field_above 64 x (64 * i) 8)

late_more : (n j m x : ℕ) (e : BlockRefusal) → (bit m 0 ≡ 0 → listed (field x 0 8) ≡ true) → Late n (j + 1) (m / 2) (x / 2 ^ 64) e → Late (suc n) j m x e
late_more n j m x e head r =
    record {
      i = suc r.i;
      is = (let p : j + 1 + r.i ≡ j + suc r.i = omega arith in r.is ∙ ap Unlisted p);
      within = (let h = r.within in omega arith);
      control = bit_suc m r.i ∙ r.control;
      unlisted = rw (type_above x r.i) r.unlisted;
      lowest = lower;
    }
  where
    lower : (k : ℕ) → k < suc r.i → bit m k ≡ 0 → listed (field x (64 * k) 8) ≡ true
    lower zero h z = head z
    lower (suc k) h z = rw (type_above x k) (r.lowest k (omega arith) (sym (bit_suc m k) ∙ z))

low_byte : (x : ℕ) → field x 0 8 ≡ x % 256
low_byte x = omega arith

whole_refused : (n j m x : ℕ) (e : BlockRefusal) → read_whole n j m x ≡ refuses e → Late n j m x e
whole_refused zero j m x e q = absurd (never_refused [] e q)
whole_refused (suc n) j m x e q =
    elim (cases_Bool (eqb (m % 2) 1)) [
      | inl t ↦
          (let r = eqb-true _ _ t in
          let later = refused_before _ _ e (sym (whole_data n j m x _ _ _ refl r refl refl) ∙ q) in
          late_more n j m x e (λ z. absurd (omega arith)) (whole_refused n (j + 1) (m / 2) (x / 2 ^ 64) e later))
      | inr t ↦
          (let d : m % 2 ≡ 1 → ⊥ = eqb-false _ _ t in
          let r : m % 2 ≡ 0 = omega arith in
          elim (cases_Bool (listed (x % 256))) [
            | inl l ↦
                (let later = refused_before _ _ e (sym (whole_control n j m x _ _ _ refl r refl refl l) ∙ q) in
                late_more n j m x e (λ z. ap listed (low_byte x) ∙ l) (whole_refused n (j + 1) (m / 2) (x / 2 ^ 64) e later))
            | inr l ↦
                (let p : refuses (Unlisted j) ≡ refuses e = sym (whole_unlisted n j m x r l) ∙ q in
                let s : j ≡ j + 0 = omega arith in
                let is : Unlisted j ≡ e = cc in
                record {
                  i = 0;
                  is = sym is ∙ ap Unlisted s;
                  within = omega arith;
                  control = omega arith;
                  unlisted = ap listed (low_byte x) ∙ l;
                  lowest = λ k h z. absurd (omega arith);
                })
          ])
    ]

-- the same where no control word came before word j: word c of them is the first control word

record FirstMarked (n m c : ℕ) : Type 0 where
  within : c < n
  control : bit m c ≡ 0
  earlier : (k : ℕ) → k < c → bit m k ≡ 1

record CutUnlisted (n j m x w : ℕ) : Type 0 where
  c : ℕ
  i : ℕ
  is : w ≡ j + i
  first : FirstMarked n m c
  typed : 0 < field x (64 * c) 4
  later : c < i
  within : i < n
  control : bit m i ≡ 0
  unlisted : (k : ℕ) → k + 4 ≡ 64 * i → listed (field x k 8) ≡ false
  lowest : (l k : ℕ) → c < l → l < i → bit m l ≡ 0 → k + 4 ≡ 64 * l → listed (field x k 8) ≡ true

record CutUntyped (n j m x w : ℕ) : Type 0 where
  c : ℕ
  is : w ≡ j + c
  first : FirstMarked n m c
  empty : field x (64 * c) 4 ≡ 0

abbrev CutSeen : ℕ → ℕ → ℕ → ℕ → BlockRefusal → Type 0
CutSeen n j m x NoControl = (i : ℕ) → i < n → bit m i ≡ 1
CutSeen n j m x (NoType w) = CutUntyped n j m x w
CutSeen n j m x (Unlisted w) = CutUnlisted n j m x w

nibble_above : (x c : ℕ) → field x (64 * suc c) 4 ≡ field (x / 2 ^ 64) (64 * c) 4
nibble_above x c = let e : 64 * suc c ≡ 64 + 64 * c = omega arith in rw e (field_above 64 x (64 * c) 4)

marked_more : (n m c : ℕ) → m % 2 ≡ 1 → FirstMarked n (m / 2) c → FirstMarked (suc n) m (suc c)
marked_more n m c odd f =
    record { within = (let h = f.within in omega arith); control = bit_suc m c ∙ f.control; earlier = early }
  where
    early : (k : ℕ) → k < suc c → bit m k ≡ 1
    early zero h = omega arith
    early (suc k) h = bit_suc m k ∙ f.earlier k (omega arith)

cut_more : (n j m x : ℕ) (e : BlockRefusal) → m % 2 ≡ 1 → CutSeen n (j + 1) (m / 2) (x / 2 ^ 64) e → CutSeen (suc n) j m x e
cut_more n j m x NoControl odd s = all
  where
    all : (i : ℕ) → i < suc n → bit m i ≡ 1
    all zero h = omega arith
    all (suc i) h = bit_suc m i ∙ s i (omega arith)
cut_more n j m x (NoType w) odd s =
    record {
      c = suc s.c;
      is = (let h = s.is in omega arith);
      first = marked_more n m s.c odd s.first;
      empty = nibble_above x s.c ∙ s.empty;
    }
cut_more n j m x (Unlisted w) odd s =
    record {
      c = suc s.c;
      i = suc s.i;
      is = (let h = s.is in omega arith);
      first = marked_more n m s.c odd s.first;
      typed = rw (nibble_above x s.c) s.typed;
      later = (let h = s.later in omega arith);
      within = (let h = s.within in omega arith);
      control = bit_suc m s.i ∙ s.control;
      unlisted = λ k h.
          (let a = s.later in
          let p : k ≡ 64 + (k - 64) = omega arith in
          rw (p, field_above 64 x (k - 64) 8) (s.unlisted (k - 64) (omega arith)));
      lowest = lower;
    }
  where
    lower : (l k : ℕ) → suc s.c < l → l < suc s.i → bit m l ≡ 0 → k + 4 ≡ 64 * l → listed (field x k 8) ≡ true
    lower zero k a b z h = absurd (omega arith)
    lower (suc l) k a b z h =
        let p : k ≡ 64 + (k - 64) = omega arith in
        rw (p, field_above 64 x (k - 64) 8) (s.lowest l (k - 64) (omega arith) (omega arith) (sym (bit_suc m l) ∙ z) (omega arith))

-- the first control word itself, with a type, and a later one without
cut_late : (n j m x : ℕ) → m % 2 ≡ 0 → 0 < x % 16 → (e : BlockRefusal) → Late n (j + 1) (m / 2) (x / 2 ^ 60) e → CutSeen (suc n) j m x e
cut_late n j m x even typed e r = subst (λ (f : BlockRefusal). CutSeen (suc n) j m x f) (sym r.is) seen
  where
    lower : (l k : ℕ) → 0 < l → l < suc r.i → bit m l ≡ 0 → k + 4 ≡ 64 * l → listed (field x k 8) ≡ true
    lower zero k a b z h = absurd (omega arith)
    lower (suc l) k a b z h =
        let p : k ≡ 60 + 64 * l = omega arith in
        rw (p, field_above 60 x (64 * l) 8) (r.lowest l (omega arith) (sym (bit_suc m l) ∙ z))

    seen : CutUnlisted (suc n) j m x (j + 1 + r.i)
    seen =
        record {
          c = 0;
          i = suc r.i;
          is = omega arith;
          first = record { within = omega arith; control = omega arith; earlier = λ k h. absurd (omega arith) };
          typed = omega arith;
          later = omega arith;
          within = (let h = r.within in omega arith);
          control = bit_suc m r.i ∙ r.control;
          unlisted = λ k h. (let p : k ≡ 60 + 64 * r.i = omega arith in rw (p, field_above 60 x (64 * r.i) 8) r.unlisted);
          lowest = lower;
        }

cut_refused : (n j m x : ℕ) (e : BlockRefusal) → read_cut n j m x ≡ refuses e → CutSeen n j m x e
cut_refused zero j m x e q =
    let is : NoControl ≡ e = cc in
    subst (λ (f : BlockRefusal). CutSeen 0 j m x f) is (λ i h. absurd (omega arith))
cut_refused (suc n) j m x e q =
    elim (cases_Bool (eqb (m % 2) 1)) [
      | inl t ↦
          (let r = eqb-true _ _ t in
          let later = refused_before _ _ e (sym (cut_data n j m x _ _ _ refl r refl refl) ∙ q) in
          cut_more n j m x e r (cut_refused n (j + 1) (m / 2) (x / 2 ^ 64) e later))
      | inr t ↦
          (let d : m % 2 ≡ 1 → ⊥ = eqb-false _ _ t in
          let r : m % 2 ≡ 0 = omega arith in
          elim (cases_Bool (eqb (x % 16) 0)) [
            | inl l ↦
                (let z = eqb-true _ _ l in
                let p : refuses (NoType j) ≡ refuses e = sym (cut_untyped n j m x r l) ∙ q in
                let is : NoType j ≡ e = cc in
                let here : CutUntyped (suc n) j m x j = record { c = 0; is = omega arith; first = record { within = omega arith; control = omega arith; earlier = λ k h. absurd (omega arith) }; empty = omega arith } in
                subst (λ (f : BlockRefusal). CutSeen (suc n) j m x f) is here)
            | inr l ↦
                (let ne : x % 16 ≡ 0 → ⊥ = eqb-false _ _ l in
                let later = refused_before _ _ e (sym (cut_control n j m x _ _ _ refl r refl refl l) ∙ q) in
                cut_late n j m x r (omega arith) e (whole_refused n (j + 1) (m / 2) (x / 2 ^ 60) e later))
          ])
    ]

-- the whole block

module _ (b : ℕ) where
  mark_bit : (j : ℕ) → j < 4 → bit b (1 + j) ≡ bit (b / 2 % 16) j
  mark_bit j h = let e : 1 + j ≡ suc j = omega arith in rw e (bit_suc b j ∙ sym (low_four (b / 2) j h))

  above_five : (at n : ℕ) → field b (5 + at) n ≡ field (b / 32) at n
  above_five at n = field_above 5 b at n

  type_bits : (j : ℕ) → 0 < j → field b (1 + 64 * j) 8 ≡ field (b / 32) (64 * j - 4) 8
  type_bits j h = let e : 1 + 64 * j ≡ 5 + (64 * j - 4) = omega arith in rw e (above_five (64 * j - 4) 8)

  first_of : (c : ℕ) → b % 2 ≡ 0 → FirstMarked 4 (b / 2 % 16) c → MarkedFirst b c
  first_of c even f =
      let w = f.within in
      record {
        mixed = omega arith;
        within = w;
        control = mark_bit c w ∙ f.control;
        earlier = λ j h. mark_bit j (omega arith) ∙ f.earlier j h;
      }

  seen : (e : BlockRefusal) → b % 2 ≡ 0 → CutSeen 4 0 (b / 2 % 16) (b / 32) e → BlockRefused b e
  seen NoControl even s = record { mixed = omega arith; all_marked = λ j h. mark_bit j h ∙ s j h }
  seen (NoType w) even s =
      let is : s.c ≡ w = (let h = s.is in omega arith) in
      subst (λ (v : ℕ). HasNoType b v) is (record { first = first_of s.c even s.first; empty = above_five (64 * s.c) 4 ∙ s.empty })
  seen (Unlisted w) even s =
      let is : s.i ≡ w = (let h = s.is in omega arith) in
      let a = s.later in
      let u = s.within in
      subst (λ (v : ℕ). HasUnlisted b v) is
      (record {
        c = s.c;
        first = first_of s.c even s.first;
        typed = rw (above_five (64 * s.c) 4) s.typed;
        later = s.later;
        within = s.within;
        control = mark_bit s.i u ∙ s.control;
        unlisted = rw (type_bits s.i (omega arith)) (s.unlisted (64 * s.i - 4) (omega arith));
        lowest = λ k h l z. rw (type_bits k (omega arith)) (s.lowest k (64 * k - 4) h l (sym (mark_bit k (omega arith)) ∙ z) (omega arith));
      })

  pub block_refused : (e : BlockRefusal) → read_block b ≡ refuses e → BlockRefused b e
  block_refused e q =
      elim (cases_Bool (eqb (b % 2) 1)) [
        | inl t ↦ (let r = whole_refused 4 0 15 (b / 2) e (rw t at q) in let one = all_ones r.i r.within in let none = r.control in absurd (omega arith))
        | inr t ↦
            (let d : b % 2 ≡ 1 → ⊥ = eqb-false _ _ t in
            seen e (omega arith) (cut_refused 4 0 (b / 2 % 16) (b / 32) e (rw t at q)))
      ]
