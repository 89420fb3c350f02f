-- A turn of the reader.
use Rattle.std.proofs.Common.{◌≡◌, ℕ, suc, ◌+◌, ◌-◌, ◌*◌, ◌/◌, ◌%◌, ◌^◌, ◌<◌, List, [], ◌++◌, length, take, sym, refl, ap, ◌∙◌, append_assoc, append-nil, arith}
use Rattle.std.proofs.lemmas.List.{map-append, take_all}
use Rattle.words.specs.Raw.{Raw}
use Rattle.words.specs.Words.{raw, raws}
use Rattle.blocks.specs.Reading.{gives, refuses, read_block}
use Rattle.words.specs.declared.word.Word.{Word}
use Rattle.blocks.specs.declared.refusal.BlockRefusal.{BlockRefusal}
use Rattle.messages.specs.Reading.{MessageReading, gives_all, refuses_at, behind, next, read_message}

pub read_more : (n b x : ℕ) → read_message (suc n) b x ≡ next b (read_block (x % 2 ^ 257)) (read_message n (b + 1) (x / 2 ^ 257))
unfolding read_message
read_more n b x = refl

pub read_none : (b x : ℕ) → read_message 0 b x ≡ gives_all []
unfolding read_message
read_none b x = refl

behind_behind : (ws vs : List Raw) (r : MessageReading) → behind ws (behind vs r) ≡ behind (ws ++ vs) r
behind_behind ws vs (gives_all us) = ap gives_all (sym (append_assoc ws vs us))
behind_behind ws vs (refuses_at b e) = refl

pub begun : (r : MessageReading) → r ≡ behind [] r
begun (gives_all ws) = refl
begun (refuses_at b e) = refl

module _ (total : MessageReading) (words : List Word) (b x : ℕ) (h : b < 20) (inv : total ≡ behind (raws (take (4 * b) words)) (read_message (20 - b) b x)) where
  opened : total ≡ behind (raws (take (4 * b) words)) (next b (read_block (x % 2 ^ 257)) (read_message (20 - (b + 1)) (b + 1) (x / 2 ^ 257)))
  opened =
      let n : 20 - b ≡ suc (20 - (b + 1)) = omega arith in
      inv ∙ rw (n, read_more (20 - (b + 1)) b x)

  pub given : (value x' : ℕ) (four words' : List Word) → value ≡ x % 2 ^ 257 → x' ≡ x / 2 ^ 257 → gives (raws four) ≡ read_block value → take (4 * b + 4) words' ≡ take (4 * b) words ++ four
      → total ≡ behind (raws (take (4 * (b + 1)) words')) (read_message (20 - (b + 1)) (b + 1) x')
  given value x' four words' v l g t =
      let i : 4 * (b + 1) ≡ 4 * b + 4 = omega arith in
      let r : read_block (x % 2 ^ 257) ≡ gives (raws four) = sym (g ∙ ap read_block v) in
      let p : raws (take (4 * (b + 1)) words') ≡ raws (take (4 * b) words) ++ raws four = rw (i, t) (map-append raw (take (4 * b) words) four) in
      (rw (r, ← l) at opened) ∙ behind_behind (raws (take (4 * b) words)) (raws four) (read_message (20 - (b + 1)) (b + 1) x') ∙ ap (λ (ws : List Raw). behind ws (read_message (20 - (b + 1)) (b + 1) x')) (sym p)

  pub denied : (value : ℕ) (e : BlockRefusal) → value ≡ x % 2 ^ 257 → refuses e ≡ read_block value → refuses_at b e ≡ total
  denied value e v g =
      let r : read_block (x % 2 ^ 257) ≡ refuses e = sym (g ∙ ap read_block v) in
      sym (rw r at opened)

pub closed : (total : MessageReading) (words : List Word) (b x : ℕ) → b ≡ 20 → length words ≡ 80 → total ≡ behind (raws (take (4 * b) words)) (read_message (20 - b) b x) → gives_all (raws words) ≡ total
closed total words b x h n inv =
    let z : 20 - b ≡ 0 = omega arith in
    let t : take (4 * b) words ≡ words = take_all (4 * b) words (omega arith) in
    sym ((rw (z, read_none b x, t) at inv) ∙ ap gives_all (append-nil (raws words)))
