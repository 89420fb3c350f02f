-- The message of valid words is never refused.
use Rattle.std.proofs.Common.{◌≡◌, ℕ, zero, suc, ◌+◌, ◌-◌, ◌*◌, ◌/◌, ◌%◌, ◌^◌, ◌<◌, true, ◌⊎◌, List, [], ◌∷◌, length, drop, sym, refl, ap, ◌∙◌, inl, inr, arith}
use Rattle.std.proofs.lemmas.Bool.{cases_order, both_ways}
use Rattle.std.proofs.lemmas.List.{length-take-le, length-drop}
use Rattle.words.specs.Types.{listed}
use Rattle.words.specs.Raw.{Raw, data_word, control_word, mark, body, Valid, AllValid}
use Rattle.blocks.specs.Blocks.{bit, word, FirstControl, MixedBlock, BlockOf, MarkedFirst, kept_nibble, later_type, BlockRefused}
use Rattle.blocks.specs.declared.refusal.BlockRefusal.{BlockRefusal}
use Rattle.blocks.specs.declared.refusal.BlockRefusal.TheVariants.{NoControl, NoType, Unlisted}
use Rattle.blocks.proofs.Nibbles.{told}
use Rattle.messages.specs.Messages.{MessageOf, FirstRefused, group, block_at}
use Rattle.messages.proofs.Laws.{valid_take, valid_drop}

-- either all words are data, or one is the first control word
kinds : (ws : List Raw) → ((j : ℕ) → j < length ws → mark (word ws j) ≡ 1) ⊎ ((c : ℕ) × FirstControl ws c)
kinds [] = inl (λ j h. absurd (omega arith))
kinds (control_word b ∷ ws) = inr (0, record { within = omega arith; control = refl; earlier = λ j h. absurd (omega arith) })
kinds (data_word b ∷ ws) =
    elim (kinds ws) [
      | inl all ↦ inl (more all)
      | inr f ↦ inr (suc f.0, record { within = (let h = f.1.within in omega arith); control = f.1.control; earlier = early f.0 f.1.earlier })
    ]
  where
    more : ((j : ℕ) → j < length ws → mark (word ws j) ≡ 1) → (j : ℕ) → j < length (data_word b ∷ ws) → mark (word (data_word b ∷ ws) j) ≡ 1
    more all zero h = refl
    more all (suc j) h = all j (omega arith)

    early : (c : ℕ) → ((j : ℕ) → j < c → mark (word ws j) ≡ 1) → (j : ℕ) → j < suc c → mark (word (data_word b ∷ ws) j) ≡ 1
    early c f zero h = refl
    early c f (suc j) h = f j (omega arith)

valid_at : (ws : List Raw) (j : ℕ) → j < length ws → AllValid ws → Valid (word ws j)
valid_at [] j h v = absurd (omega arith)
valid_at (w ∷ ws) zero h v = v.0
valid_at (w ∷ ws) (suc j) h v = valid_at ws j (omega arith) v.1

-- a valid control word has a listed type
typed : (w : Raw) → Valid w → mark w ≡ 0 → listed (body w % 256) ≡ true
typed (data_word b) v m = absurd (omega arith)
typed (control_word b) v m = v.1

-- a block that is all data says so in bit 0
data_read : (x : ℕ) (e : BlockRefusal) → bit x 0 ≡ 1 → BlockRefused x e → ⊥
data_read x NoControl b r = let h = r.mixed in omega arith
data_read x (NoType c) b r = let h = r.first.mixed in omega arith
data_read x (Unlisted j) b r = let h = r.first.mixed in omega arith

module _ (ws : List Raw) (x c : ℕ) (four : length ws ≡ 4) (valid : AllValid ws) (is : FirstControl ws c) (b : MixedBlock ws c x) where
  within : c < 4
  within = let h = is.within in omega arith

  -- the word that the block marks first is the first control word
  one_first : (d : ℕ) → MarkedFirst x d → d ≡ c
  one_first d f =
      elim (cases_order d c) [
        | inl e ↦ e
        | inr (inl l) ↦ (let p = b.marked d f.within in let q = is.earlier d l in let r = f.control in absurd (omega arith))
        | inr (inr l) ↦ (let p = b.marked c within in let q = is.control in let r = f.earlier c l in absurd (omega arith))
      ]

  has_type : 0 < body (word ws c) % 16
  has_type =
      let t : ℕ = body (word ws c) % 256 in
      let h = (told t (omega arith) (typed (word ws c) (valid_at ws c is.within valid) is.control)).1 in
      omega arith

  mixed_read : (e : BlockRefusal) → BlockRefused x e → ⊥
  mixed_read NoControl r = let p = r.all_marked c within in let q = b.marked c within in let s = is.control in omega arith
  mixed_read (NoType d) r =
      let e = one_first d r.first in
      let k : kept_nibble x c ≡ 0 = ap (kept_nibble x) (sym e) ∙ r.empty in
      let l = b.low in
      let h = has_type in
      omega arith
  mixed_read (Unlisted j) r =
      let e = one_first r.c r.first in
      let l : c < j = let h = r.later in omega arith in
      let m : mark (word ws j) ≡ 0 = sym (b.marked j r.within) ∙ r.control in
      let t = typed (word ws j) (valid_at ws j (let h = r.within in omega arith) valid) m in
      let y : ℕ = x / 2 ^ (1 + 64 * j) in
      let f : y % 2 ^ 64 ≡ body (word ws j) = b.after j l r.within in
      let g : later_type x j ≡ body (word ws j) % 256 = low_byte y (body (word ws j)) f in
      both_ways (listed (later_type x j)) r.unlisted (ap listed g ∙ t)
    where
      low_byte : (y w : ℕ) → y % 2 ^ 64 ≡ w → y % 2 ^ 8 ≡ w % 256
      low_byte y w h = omega arith

pub block_read : (ws : List Raw) (x : ℕ) (e : BlockRefusal) → length ws ≡ 4 → AllValid ws → BlockOf ws x → BlockRefused x e → ⊥
block_read ws x e n v b r =
    elim (kinds ws) [
      | inl all ↦ data_read x e (b.all_data (λ j h. all j (omega arith))).first r
      | inr f ↦ mixed_read ws x f.0 n v f.1 (b.mixed f.0 f.1) e r
    ]

pub message_read : (ws : List Raw) (xs : List ℕ) (b : ℕ) (e : BlockRefusal) → length ws ≡ 80 → AllValid ws → MessageOf ws xs → FirstRefused xs b e → ⊥
message_read ws xs b e n v m r =
    let l : length (drop (4 * b) ws) ≡ 80 - 4 * b = length-drop (4 * b) ws ∙ ap (λ k. k - 4 * b) n in
    let h = r.within in
    let k : length (group ws b) ≡ 4 = length-take-le 4 (drop (4 * b) ws) (omega arith) in
    block_read (group ws b) (block_at xs b) e k (valid_take 4 (drop (4 * b) ws) (valid_drop (4 * b) ws v)) (m.blocks b r.within) r.refused
