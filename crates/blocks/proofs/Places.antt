-- The number of a block has the bits of every rule in their places.
use Rattle.std.proofs.Common.{◌≡◌, ℕ, zero, suc, ◌+◌, ◌-◌, ◌*◌, ◌/◌, ◌%◌, ◌^◌, ◌<◌, true, false, eqb, List, [], ◌∷◌, length, sym, refl, ap, ◌∙◌, pow-suc, arith}
use Rattle.std.proofs.lemmas.Bool.{eq-eqb, ne_eqb}
use Rattle.words.specs.Raw.{Raw, data_word, control_word, mark, body, Valid, AllValid}
use Rattle.blocks.specs.Numbers.{marks, whole, kept, cut, block}
use Rattle.blocks.specs.Blocks.{field, bit, word, FirstControl, DataBlock, MixedBlock, BlockOf}
use Rattle.blocks.proofs.Bits.{field_onto, bit_suc, low_four}
use Rattle.blocks.proofs.Laws.{marks_lt}
use Rattle.blocks.proofs.Bounds.{block_lt}

body_lt : (w : Raw) → Valid w → body w < 2 ^ 64
body_lt (data_word b) v = v
body_lt (control_word b) v = v.0

mark_lt : (w : Raw) → mark w < 2
mark_lt (data_word b) = omega arith
mark_lt (control_word b) = omega arith

-- the joined bodies

whole_at : (ws : List Raw) (j : ℕ) → AllValid ws → j < length ws → field (whole ws) (64 * j) 64 ≡ body (word ws j)
whole_at [] j v h = absurd (omega arith)
whole_at (w ∷ ws) zero v h = let l = body_lt w v.0 in omega arith
whole_at (w ∷ ws) (suc j) v h =
    let l = body_lt w v.0 in
    let e : 64 * suc j ≡ 64 + 64 * j = omega arith in
    rw e (field_onto 64 (body w) (whole ws) (64 * j) 64 (omega arith) ∙ whole_at ws j v.1 (omega arith))

-- the marks

pub marks_at : (ws : List Raw) (j : ℕ) → j < length ws → bit (marks ws) j ≡ mark (word ws j)
marks_at [] j h = absurd (omega arith)
marks_at (w ∷ ws) zero h = let l = mark_lt w in omega arith
marks_at (w ∷ ws) (suc j) h =
    let l = mark_lt w in
    let e : (mark w + 2 * marks ws) / 2 ≡ marks ws = omega arith in
    bit_suc (marks (w ∷ ws)) j ∙ ap (λ (z : ℕ). bit z j) e ∙ marks_at ws j (omega arith)

pub all_ones : (j : ℕ) → j < 4 → bit 15 j ≡ 1
all_ones zero h = refl
all_ones (suc zero) h = refl
all_ones (suc (suc zero)) h = refl
all_ones (suc (suc (suc zero))) h = refl
all_ones (suc (suc (suc (suc j)))) h = absurd (omega arith)

full : (ws : List Raw) → ((j : ℕ) → j < length ws → mark (word ws j) ≡ 1) → marks ws + 1 ≡ 2 ^ length ws
full [] f = refl
full (w ∷ ws) f =
    let m : mark w ≡ 1 = f 0 (omega arith) in
    let i = full ws (λ j h. f (suc j) (omega arith)) in
    let p = pow-suc 2 (length ws) in
    omega arith

-- the joined bodies without the nibble: from word c on all stand 4 bits lower

record CutAt (ws : List Raw) (c : ℕ) : Type 0 where
  before : (j : ℕ) → j < c → field (cut ws) (64 * j) 64 ≡ body (word ws j)
  low : field (cut ws) (64 * c) 4 ≡ body (word ws c) % 16
  rest : field (cut ws) (4 + 64 * c) 56 ≡ body (word ws c) / 256
  after : (j k : ℕ) → c < j → j < length ws → 64 * j ≡ 4 + k → field (cut ws) k 64 ≡ body (word ws j)

middle : (b w : ℕ) → b < 2 ^ 64 → (kept b + 2 ^ 60 * w) / 2 ^ 4 % 2 ^ 56 ≡ b / 256
middle b w h =
    let a : (kept b + 2 ^ 60 * w) / 2 ^ 4 ≡ b / 256 + 2 ^ 56 * w = omega arith in
    rw a (omega arith)

cut_more : (b : ℕ) (ws : List Raw) (c : ℕ) → b < 2 ^ 64 → CutAt ws c → CutAt (data_word b ∷ ws) (suc c)
cut_more b ws c v i =
    record {
      before = earlier;
      low = (let e : 64 * suc c ≡ 64 + 64 * c = omega arith in rw e (onto (64 * c) 4 ∙ i.low));
      rest = (let e : 4 + 64 * suc c ≡ 64 + (4 + 64 * c) = omega arith in rw e (onto (4 + 64 * c) 56 ∙ i.rest));
      after = later;
    }
  where
    onto : (at n : ℕ) → field (b + 2 ^ 64 * cut ws) (64 + at) n ≡ field (cut ws) at n
    onto at n = field_onto 64 b (cut ws) at n (omega arith)

    earlier : (j : ℕ) → j < suc c → field (cut (data_word b ∷ ws)) (64 * j) 64 ≡ body (word (data_word b ∷ ws) j)
    earlier zero h = omega arith
    earlier (suc j) h = let e : 64 * suc j ≡ 64 + 64 * j = omega arith in rw e (onto (64 * j) 64 ∙ i.before j (omega arith))

    later : (j k : ℕ) → suc c < j → j < length (data_word b ∷ ws) → 64 * j ≡ 4 + k → field (cut (data_word b ∷ ws)) k 64 ≡ body (word (data_word b ∷ ws) j)
    later zero k h l e = absurd (omega arith)
    later (suc j) k h l e =
        let n : k ≡ 64 + (64 * j - 4) = omega arith in
        rw n (onto (64 * j - 4) 64 ∙ i.after j (64 * j - 4) (omega arith) (omega arith) (omega arith))

cut_here : (b : ℕ) (ws : List Raw) → b < 2 ^ 64 → AllValid ws → CutAt (control_word b ∷ ws) 0
cut_here b ws v vs =
    record {
      before = λ j h. absurd (omega arith);
      low = omega arith;
      rest = middle b (whole ws) v;
      after = later;
    }
  where
    later : (j k : ℕ) → 0 < j → j < length (control_word b ∷ ws) → 64 * j ≡ 4 + k → field (cut (control_word b ∷ ws)) k 64 ≡ body (word (control_word b ∷ ws) j)
    later zero k h l e = absurd (omega arith)
    later (suc j) k h l e =
        let n : k ≡ 60 + 64 * j = omega arith in
        rw n (field_onto 60 (kept b) (whole ws) (64 * j) 64 (omega arith) ∙ whole_at ws j vs (omega arith))

cut_at : (ws : List Raw) (c : ℕ) → AllValid ws → FirstControl ws c → CutAt ws c
cut_at [] c v f = let h = f.within in absurd (omega arith)
cut_at (data_word b ∷ ws) zero v f = let h = f.control in absurd (omega arith)
cut_at (control_word b ∷ ws) (suc c) v f = let h = f.earlier 0 (omega arith) in absurd (omega arith)
cut_at (control_word b ∷ ws) zero v f = cut_here b ws v.0.0 v.1
cut_at (data_word b ∷ ws) (suc c) v f =
    cut_more b ws c v.0 (cut_at ws c v.1 (record { within = (let h = f.within in omega arith); control = f.control; earlier = λ j h. f.earlier (suc j) (omega arith) }))

-- the block

data_places : (ws : List Raw) → length ws ≡ 4 → AllValid ws → ((j : ℕ) → j < 4 → mark (word ws j) ≡ 1) → DataBlock ws (block ws)
data_places ws n v f =
    let e : eqb (marks ws) 15 ≡ true = eq-eqb _ _ (let q = rw n at (full ws (λ j h. f j (omega arith))) in omega arith) in
    let b : block ws ≡ 1 + 2 * whole ws = rw e in
    rw b (record {
      first = omega arith;
      bodies = λ j h. field_onto 1 1 (whole ws) (64 * j) 64 (omega arith) ∙ whole_at ws j v (omega arith);
    })

not_full : (ws : List Raw) (c : ℕ) → length ws ≡ 4 → FirstControl ws c → marks ws ≡ 15 → ⊥
not_full ws c n f q =
    let w = f.within in
    let one = all_ones c (omega arith) in
    let none : bit 15 c ≡ 0 = ap (λ (x : ℕ). bit x c) (sym q) ∙ marks_at ws c f.within ∙ f.control in
    omega arith

mixed_places : (ws : List Raw) (c : ℕ) → length ws ≡ 4 → AllValid ws → FirstControl ws c → MixedBlock ws c (block ws)
mixed_places ws c n v f =
    let m = rw n at (marks_lt ws) in
    let e : eqb (marks ws) 15 ≡ false = ne_eqb _ _ (not_full ws c n f) in
    let k = cut_at ws c v f in
    let b : block ws ≡ 2 * marks ws + 2 ^ 5 * cut ws = rw e (omega arith) in
    let h2 : (2 * marks ws + 2 ^ 5 * cut ws) / 2 ≡ marks ws + 16 * cut ws = omega arith in
    let low : (marks ws + 16 * cut ws) % 16 ≡ marks ws = omega arith in
    let five : (at l : ℕ) → field (2 * marks ws + 2 ^ 5 * cut ws) (5 + at) l ≡ field (cut ws) at l = λ at l. field_onto 5 (2 * marks ws) (cut ws) at l (omega arith) in
    rw b (record {
      first = omega arith;
      marked = λ j h.
          (let s : 1 + j ≡ suc j = omega arith in
          rw s (bit_suc (2 * marks ws + 2 ^ 5 * cut ws) j ∙ ap (λ (z : ℕ). bit z j) h2 ∙ sym (low_four (marks ws + 16 * cut ws) j h) ∙ ap (λ (z : ℕ). bit z j) low ∙ marks_at ws j (omega arith)));
      before = λ j h. five (64 * j) 64 ∙ k.before j h;
      low = five (64 * c) 4 ∙ k.low;
      rest = (let q : 9 + 64 * c ≡ 5 + (4 + 64 * c) = omega arith in rw q (five (4 + 64 * c) 56 ∙ k.rest));
      after = λ j h l. (let q : 1 + 64 * j ≡ 5 + (64 * j - 4) = omega arith in rw q (five (64 * j - 4) 64 ∙ k.after j (64 * j - 4) h (omega arith) (omega arith)));
    })

pub by_the_rules : (ws : List Raw) → length ws ≡ 4 → AllValid ws → BlockOf ws (block ws)
by_the_rules ws n v = record { narrow = block_lt ws n v; all_data = data_places ws n v; mixed = λ c f. mixed_places ws c n v f }
