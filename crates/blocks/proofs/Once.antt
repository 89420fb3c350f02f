-- A block of valid words is never refused, and no block is refused in two ways.
use Rattle.std.proofs.Common.{◌≡◌, ℕ, zero, suc, ◌+◌, ◌*◌, ◌/◌, ◌%◌, ◌^◌, ◌<◌, true, List, [], ◌∷◌, length, sym, refl, ap, ◌∙◌, inl, inr, arith}
use Rattle.std.proofs.lemmas.Bool.{cases_order, both_ways}
use Rattle.words.specs.Types.{listed}
use Rattle.words.specs.Raw.{Raw, data_word, control_word, mark, body, Valid, AllValid}
use Rattle.blocks.specs.Blocks.{bit, word, FirstControl, MixedBlock, BlockOf, MarkedFirst, kept_nibble, later_type, BlockRefused}
use Rattle.blocks.specs.declared.refusal.BlockRefusal.{BlockRefusal}
use Rattle.blocks.specs.declared.refusal.BlockRefusal.TheVariants.{NoControl, NoType, Unlisted}
use Rattle.blocks.proofs.Nibbles.{told}
use Rattle.blocks.proofs.Unique.{kinds}

valid_at : (ws : List Raw) (j : ℕ) → j < length ws → AllValid ws → Valid (word ws j)
valid_at [] j h v = absurd (omega arith)
valid_at (w ∷ ws) zero h v = v.0
valid_at (w ∷ ws) (suc j) h v = valid_at ws j (omega arith) v.1

-- a valid control word has a listed type
typed : (w : Raw) → Valid w → mark w ≡ 0 → listed (body w % 256) ≡ true
typed (data_word b) v m = absurd (omega arith)
typed (control_word b) v m = v.1

-- a block that is all data says so in bit 0
data_unrefused : (x : ℕ) (e : BlockRefusal) → bit x 0 ≡ 1 → BlockRefused x e → ⊥
data_unrefused x NoControl b r = let h = r.mixed in omega arith
data_unrefused x (NoType c) b r = let h = r.first.mixed in omega arith
data_unrefused x (Unlisted j) b r = let h = r.first.mixed in omega arith

module _ (ws : List Raw) (x c : ℕ) (four : length ws ≡ 4) (valid : AllValid ws) (is : FirstControl ws c) (b : MixedBlock ws c x) where
  within : c < 4
  within = let h = is.within in omega arith

  -- the word that the block marks first is the first control word
  one_first : (d : ℕ) → MarkedFirst x d → d ≡ c
  one_first d f =
      elim (cases_order d c) [
        | inl e ↦ e
        | inr (inl l) ↦ (let p = b.marked d f.within in let q = is.earlier d l in let r = f.control in absurd (omega arith))
        | inr (inr l) ↦ (let p = b.marked c within in let q = is.control in let r = f.earlier c l in absurd (omega arith))
      ]

  has_type : 0 < body (word ws c) % 16
  has_type =
      let t : ℕ = body (word ws c) % 256 in
      let h = (told t (omega arith) (typed (word ws c) (valid_at ws c is.within valid) is.control)).1 in
      omega arith

  mixed_unrefused : (e : BlockRefusal) → BlockRefused x e → ⊥
  mixed_unrefused NoControl r = let p = r.all_marked c within in let q = b.marked c within in let s = is.control in omega arith
  mixed_unrefused (NoType d) r =
      let e = one_first d r.first in
      let k : kept_nibble x c ≡ 0 = ap (kept_nibble x) (sym e) ∙ r.empty in
      let l = b.low in
      let h = has_type in
      omega arith
  mixed_unrefused (Unlisted j) r =
      let e = one_first r.c r.first in
      let l : c < j = let h = r.later in omega arith in
      let m : mark (word ws j) ≡ 0 = sym (b.marked j r.within) ∙ r.control in
      let t = typed (word ws j) (valid_at ws j (let h = r.within in omega arith) valid) m in
      let y : ℕ = x / 2 ^ (1 + 64 * j) in
      let f : y % 2 ^ 64 ≡ body (word ws j) = b.after j l r.within in
      let g : later_type x j ≡ body (word ws j) % 256 = low_byte y (body (word ws j)) f in
      both_ways (listed (later_type x j)) r.unlisted (ap listed g ∙ t)
    where
      low_byte : (y w : ℕ) → y % 2 ^ 64 ≡ w → y % 2 ^ 8 ≡ w % 256
      low_byte y w h = omega arith

pub never_both : (ws : List Raw) (x : ℕ) (e : BlockRefusal) → length ws ≡ 4 → AllValid ws → BlockOf ws x → BlockRefused x e → ⊥
never_both ws x e n v b r =
    elim (kinds ws) [
      | inl all ↦ data_unrefused x e (b.all_data (λ j h. all j (omega arith))).first r
      | inr f ↦ mixed_unrefused ws x f.0 n v f.1 (b.mixed f.0 f.1) e r
    ]

-- a block marks one word first
one_marked : (x c d : ℕ) → MarkedFirst x c → MarkedFirst x d → c ≡ d
one_marked x c d p q =
    elim (cases_order c d) [
      | inl e ↦ e
      | inr (inl l) ↦ (let a = p.control in let b = q.earlier c l in absurd (omega arith))
      | inr (inr l) ↦ (let a = q.control in let b = p.earlier d l in absurd (omega arith))
    ]

one_unlisted : (x i j : ℕ) → BlockRefused x (Unlisted i) → BlockRefused x (Unlisted j) → i ≡ j
one_unlisted x i j p q =
    let e = one_marked x p.c q.c p.first q.first in
    let a = p.later in
    let b = q.later in
    elim (cases_order i j) [
      | inl s ↦ s
      | inr (inl l) ↦ absurd (both_ways (listed (later_type x i)) p.unlisted (q.lowest i (omega arith) l p.control))
      | inr (inr l) ↦ absurd (both_ways (listed (later_type x j)) q.unlisted (p.lowest j (omega arith) l q.control))
    ]

-- a word that is marked as control, where no word is
none_marked : (x c : ℕ) → BlockRefused x NoControl → MarkedFirst x c → ⊥
none_marked x c p q = let a = p.all_marked c q.within in let b = q.control in omega arith

-- the first control word's kept nibble is 0, or it is not
not_typed : (x c j : ℕ) → BlockRefused x (NoType c) → BlockRefused x (Unlisted j) → ⊥
not_typed x c j p q =
    let e : kept_nibble x q.c ≡ 0 = ap (kept_nibble x) (one_marked x q.c c q.first p.first) ∙ p.empty in
    let t = q.typed in
    omega arith

pub one_refusal : (x : ℕ) (e f : BlockRefusal) → BlockRefused x e → BlockRefused x f → e ≡ f
one_refusal x NoControl NoControl p q = refl
one_refusal x NoControl (NoType c) p q = absurd (none_marked x c p q.first)
one_refusal x NoControl (Unlisted j) p q = absurd (none_marked x q.c p q.first)
one_refusal x (NoType c) NoControl p q = absurd (none_marked x c q p.first)
one_refusal x (NoType c) (NoType d) p q = ap NoType (one_marked x c d p.first q.first)
one_refusal x (NoType c) (Unlisted j) p q = absurd (not_typed x c j p q)
one_refusal x (Unlisted i) NoControl p q = absurd (none_marked x p.c q p.first)
one_refusal x (Unlisted i) (NoType d) p q = absurd (not_typed x d i q p)
one_refusal x (Unlisted i) (Unlisted j) p q = ap Unlisted (one_unlisted x i j p q)
