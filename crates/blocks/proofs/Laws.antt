-- The two laws of a block.
use Rattle.std.proofs.Common.{◌≡◌, ℕ, zero, suc, ◌+◌, ◌*◌, ◌/◌, ◌%◌, ◌^◌, ◌<◌, false, eqb, List, [], ◌∷◌, length, sym, refl, ap, ◌∙◌, inl, inr, pow-suc, arith}
use Rattle.std.proofs.lemmas.Bool.{cases_Bool, eqb-true, eqb-false, ne_eqb}
use Rattle.words.specs.Types.{listed}
use Rattle.words.specs.Raw.{Raw, data_word, control_word, AllValid}
use Rattle.blocks.specs.Numbers.{marks, whole, cut, kept, block, restored}
use Rattle.blocks.specs.Reading.{Reading, gives, refuses, before, read_whole, read_cut, read_block}
use Rattle.blocks.proofs.Nibbles.{kept_restored, restored_kept, restored_valid}
use Rattle.blocks.proofs.Steps.{whole_data, whole_control, whole_unlisted, cut_data, cut_control, cut_untyped}

-- reading what was written

pub marks_lt : (ws : List Raw) → marks ws < 2 ^ length ws
marks_lt [] = omega arith
marks_lt (data_word b ∷ ws) = let h = marks_lt ws in rw pow-suc (omega arith)
marks_lt (control_word b ∷ ws) = let h = marks_lt ws in rw pow-suc (omega arith)

whole_back : (ws : List Raw) (j : ℕ) → AllValid ws → read_whole (length ws) j (marks ws) (whole ws) ≡ gives ws
whole_back [] j v = refl
whole_back (data_word b ∷ ws) j v =
    whole_data (length ws) j (marks (data_word b ∷ ws)) (whole (data_word b ∷ ws)) b (marks ws) (whole ws) (omega arith) (omega arith) (omega arith) (omega arith)
    ∙ ap (before (data_word b)) (whole_back ws (j + 1) v.1)
whole_back (control_word b ∷ ws) j v =
    let e : whole (control_word b ∷ ws) % 256 ≡ b % 256 = omega arith in
    whole_control (length ws) j (marks (control_word b ∷ ws)) (whole (control_word b ∷ ws)) b (marks ws) (whole ws) (omega arith) (omega arith) (omega arith) (omega arith) (ap listed e ∙ v.0.1)
    ∙ ap (before (control_word b)) (whole_back ws (j + 1) v.1)

cut_back : (ws : List Raw) (j : ℕ) → AllValid ws → marks ws + 1 < 2 ^ length ws → read_cut (length ws) j (marks ws) (cut ws) ≡ gives ws
cut_back [] j v h = absurd (omega arith)
cut_back (data_word b ∷ ws) j v h =
    let p = pow-suc 2 (length ws) in
    cut_data (length ws) j (marks (data_word b ∷ ws)) (cut (data_word b ∷ ws)) b (marks ws) (cut ws) (omega arith) (omega arith) (omega arith) (omega arith)
    ∙ ap (before (data_word b)) (cut_back ws (j + 1) v.1 (omega arith))
cut_back (control_word b ∷ ws) j v h =
    let k = restored_kept b v.0.1 in
    let x : ℕ = cut (control_word b ∷ ws) in
    let ne : eqb (x % 16) 0 ≡ false = ne_eqb _ _ (λ e. omega (arith, k.1)) in
    cut_control (length ws) j (marks (control_word b ∷ ws)) x (kept b) (marks ws) (whole ws) (omega arith) (omega arith) (omega arith) (omega arith) ne
    ∙ ap (λ (r : ℕ). before (control_word r) (read_whole (length ws) (j + 1) (marks ws) (whole ws))) k.0
    ∙ ap (before (control_word b)) (whole_back ws (j + 1) v.1)

low : (m c : ℕ) → m < 16 → (m + 2 ^ 4 * c) % 16 ≡ m
low m c h = omega arith

pub back : (ws : List Raw) → length ws ≡ 4 → AllValid ws → read_block (block ws) ≡ gives ws
back ws n v =
    let m = rw n at (marks_lt ws) in
    elim (cases_Bool (eqb (marks ws) 15)) [
      | inl e ↦
          (let f = eqb-true _ _ e in
          let r : (1 + 2 * whole ws) % 2 ≡ 1 = omega arith in
          let q : (1 + 2 * whole ws) / 2 ≡ whole ws = omega arith in
          rw (e, r, q) (rw (n, f) at (whole_back ws 0 v)))
      | inr e ↦
          (let f = eqb-false _ _ e in
          let r : (0 + 2 * (marks ws + 2 ^ 4 * cut ws)) % 2 ≡ 0 = omega arith in
          let a : (0 + 2 * (marks ws + 2 ^ 4 * cut ws)) / 2 ≡ marks ws + 2 ^ 4 * cut ws = omega arith in
          let p : (0 + 2 * (marks ws + 2 ^ 4 * cut ws)) / 2 % 16 ≡ marks ws = rw a (low (marks ws) (cut ws) m) in
          let q : (0 + 2 * (marks ws + 2 ^ 4 * cut ws)) / 32 ≡ cut ws = omega arith in
          let l : marks ws + 1 < 2 ^ length ws = rw n (let d : marks ws ≡ 15 → ⊥ = f in omega arith) in
          rw (e, r, p, q) (rw n at (cut_back ws 0 v l)))
    ]

-- writing what was read

record Split (w : Raw) (r : Reading) (ws : List Raw) : Type 0 where
  rest : List Raw
  reads : r ≡ gives rest
  is : ws ≡ w ∷ rest

split : (w : Raw) (r : Reading) (ws : List Raw) → before w r ≡ gives ws → Split w r ws
split w (gives vs) ws e = record { rest = vs; reads = refl; is = cc }
split w (refuses f) ws e = let z : ◌≡◌ {A = ℕ} 0 1 = cc in absurd (omega arith)

pub record Written (n m x : ℕ) (f : List Raw → ℕ) (ws : List Raw) : Type 0 where
  pub count : length ws ≡ n
  pub marked : marks ws ≡ m
  pub filled : f ws ≡ x
  pub valid : AllValid ws

whole_again : (n j m x : ℕ) (ws : List Raw) → read_whole n j m x ≡ gives ws → m < 2 ^ n → x < (2 ^ 64) ^ n → Written n m x whole ws
whole_again zero j m x ws e hm hx =
    let f : ws ≡ [] = cc in
    rw f (record { count = refl; marked = omega arith; filled = omega arith; valid = tt })
whole_again (suc n) j m x ws e hm hx =
    let pm = pow-suc 2 n in
    let px = pow-suc (2 ^ 64) n in
    elim (cases_Bool (eqb (m % 2) 1)) [
      | inl t ↦
          (let r = eqb-true _ _ t in
          let s = split (data_word (x % 2 ^ 64)) (read_whole n (j + 1) (m / 2) (x / 2 ^ 64)) ws (sym (whole_data n j m x _ _ _ refl r refl refl) ∙ e) in
          let i = whole_again n (j + 1) (m / 2) (x / 2 ^ 64) s.rest s.reads (omega arith) (omega arith) in
          rw s.is (record { count = ap suc i.count; marked = omega arith; filled = omega arith; valid = (omega arith, i.valid) }))
      | inr t ↦
          (let d : m % 2 ≡ 1 → ⊥ = eqb-false _ _ t in
          let r : m % 2 ≡ 0 = omega arith in
          elim (cases_Bool (listed (x % 256))) [
            | inl l ↦
                (let s = split (control_word (x % 2 ^ 64)) (read_whole n (j + 1) (m / 2) (x / 2 ^ 64)) ws (sym (whole_control n j m x _ _ _ refl r refl refl l) ∙ e) in
                let i = whole_again n (j + 1) (m / 2) (x / 2 ^ 64) s.rest s.reads (omega arith) (omega arith) in
                let same : x % 2 ^ 64 % 256 ≡ x % 256 = omega arith in
                rw s.is (record { count = ap suc i.count; marked = omega arith; filled = omega arith; valid = ((omega arith, ap listed same ∙ l), i.valid) }))
            | inr l ↦ (let g = whole_unlisted n j m x r l in let z : ◌≡◌ {A = ℕ} 0 1 = cc in absurd (omega arith))
          ])
    ]

cut_again : (n j m x : ℕ) (ws : List Raw) → read_cut n j m x ≡ gives ws → m < 2 ^ n → x * 16 < (2 ^ 64) ^ n → Written n m x cut ws × (m + 1 < 2 ^ n)
cut_again zero j m x ws e hm hx = let z : ◌≡◌ {A = ℕ} 0 1 = cc in absurd (omega arith)
cut_again (suc n) j m x ws e hm hx =
    let pm = pow-suc 2 n in
    let px = pow-suc (2 ^ 64) n in
    elim (cases_Bool (eqb (m % 2) 1)) [
      | inl t ↦
          (let r = eqb-true _ _ t in
          let s = split (data_word (x % 2 ^ 64)) (read_cut n (j + 1) (m / 2) (x / 2 ^ 64)) ws (sym (cut_data n j m x _ _ _ refl r refl refl) ∙ e) in
          let i = cut_again n (j + 1) (m / 2) (x / 2 ^ 64) s.rest s.reads (omega arith) (omega arith) in
          (rw s.is (record { count = ap suc i.0.count; marked = omega arith; filled = omega arith; valid = (omega arith, i.0.valid) }), omega arith))
      | inr t ↦
          (let d : m % 2 ≡ 1 → ⊥ = eqb-false _ _ t in
          let r : m % 2 ≡ 0 = omega arith in
          elim (cases_Bool (eqb (x % 16) 0)) [
            | inl l ↦ (let g = cut_untyped n j m x r l in let z : ◌≡◌ {A = ℕ} 0 1 = cc in absurd (omega arith))
            | inr l ↦
                (let ne : x % 16 ≡ 0 → ⊥ = eqb-false _ _ l in
                let s = split (control_word (restored (x % 2 ^ 60))) (read_whole n (j + 1) (m / 2) (x / 2 ^ 60)) ws (sym (cut_control n j m x _ _ _ refl r refl refl l) ∙ e) in
                let i = whole_again n (j + 1) (m / 2) (x / 2 ^ 60) s.rest s.reads (omega arith) (omega arith) in
                let k = kept_restored (x % 2 ^ 60) in
                (rw s.is (record { count = ap suc i.count; marked = omega arith; filled = ap (λ (y : ℕ). y + 2 ^ 60 * whole s.rest) k ∙ omega arith; valid = (restored_valid (x % 2 ^ 60) (omega arith) (omega arith), i.valid) }), omega arith))
          ])
    ]

pub again : (b : ℕ) (ws : List Raw) → b < 2 ^ 257 → read_block b ≡ gives ws → (length ws ≡ 4) × (block ws ≡ b) × AllValid ws
again b ws h e =
    elim (cases_Bool (eqb (b % 2) 1)) [
      | inl t ↦
          (let r = eqb-true _ _ t in
          let i = whole_again 4 0 15 (b / 2) ws (rw t at e) (omega arith) (omega arith) in
          (i.count, rw i.marked (omega arith), i.valid))
      | inr t ↦
          (let d : b % 2 ≡ 1 → ⊥ = eqb-false _ _ t in
          let i = cut_again 4 0 (b / 2 % 16) (b / 32) ws (rw t at e) (omega arith) (omega arith) in
          let ne : eqb (b / 2 % 16) 15 ≡ false = ne_eqb _ _ (λ q. omega arith) in
          (i.0.count, rw (i.0.marked, ne, i.0.filled) (omega arith), i.0.valid))
    ]
