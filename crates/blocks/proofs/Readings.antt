-- A block read limb by limb.
use Rattle.std.proofs.Common.{◌≡◌, ℕ, suc, ◌+◌, ◌-◌, ◌*◌, ◌/◌, ◌%◌, ◌^◌, ◌<◌, Bool, true, false, List, [], ◌∷◌, ◌++◌, length, Ok, Err, get_or, take, drop, set, sym, refl, ap, ◌∙◌, append-nil, arith}
use Rattle.std.proofs.lemmas.List.{take_more_set, take_all, drop_more, map-append}
use Rattle.words.specs.Raw.{Raw}
use Rattle.blocks.specs.Packed.{packed}
use Rattle.words.specs.Words.{raw, raws}
use Rattle.blocks.specs.Reading.{Reading, gives, refuses, before, read_block}
use Rattle.blocks.specs.Widths.{room}
use Rattle.blocks.specs.Taking.{reads, left, after_all, Taken}
use Rattle.blocks.specs.declared.reading.Reader.{Reader}
use Rattle.words.specs.declared.word.Word.{Word}
use Rattle.blocks.specs.declared.refusal.BlockRefusal.{BlockRefusal}
use Rattle.blocks.specs.declared.refusal.BlockRefusal.TheVariants.{NoControl}

pub start_data : (low : ℕ) → low % 2 ≡ 1 → (more : ℕ) → read_block (low + 2 ^ 64 * more) ≡ reads false 4 0 15 (low / 2 + room false * more)
start_data low o more =
    let p : (low + 2 ^ 64 * more) % 2 ≡ 1 = omega arith in
    let q : (low + 2 ^ 64 * more) / 2 ≡ low / 2 + room false * more = omega arith in
    rw (p, q)

low_kept : (k z : ℕ) → (k + 16 * z) % 16 ≡ k % 16
low_kept k z = omega arith

pub start_cut : (low : ℕ) → low % 2 ≡ 0 → (more : ℕ) → read_block (low + 2 ^ 64 * more) ≡ reads true 4 0 (low / 2 % 16) (low / 32 + room true * more)
start_cut low o more =
    let p : (low + 2 ^ 64 * more) % 2 ≡ 0 = omega arith in
    let a : (low + 2 ^ 64 * more) / 2 ≡ low / 2 + 16 * (2 ^ 59 * more) = omega arith in
    let q : (low + 2 ^ 64 * more) / 2 % 16 ≡ low / 2 % 16 = rw a (low_kept (low / 2) (2 ^ 59 * more)) in
    let r : (low + 2 ^ 64 * more) / 32 ≡ low / 32 + room true * more = omega arith in
    rw (p, q, r)

-- the lowest limb, and the four above it
pub lowest : (xs : List ℕ) → length xs ≡ 5 → packed 64 xs ≡ get_or xs 0 0 + 2 ^ 64 * packed 64 (take 4 (drop 1 xs))
lowest [] n = absurd (omega arith)
lowest (x ∷ xs) n = let t = take_all 4 xs (omega arith) in rw t refl

pub limbs_more : (xs : List ℕ) (i : ℕ) → i < length xs → packed 64 (drop i xs) ≡ get_or xs i 0 + 2 ^ 64 * packed 64 (drop (i + 1) xs)
limbs_more xs i h = ap (packed 64) (drop_more xs i 0 h)

widen : (cutting : Bool) (acc limb more : ℕ) → acc + room cutting * (limb + 2 ^ 64 * more) ≡ acc + room cutting * limb + 2 ^ 64 * room cutting * more
widen true acc limb more = omega arith
widen false acc limb more = omega arith

after_push : (ws : List Raw) (w : Raw) (r : Reading) → after_all (ws ++ w ∷ []) r ≡ after_all ws (before w r)
after_push [] w r = refl
after_push (x ∷ xs) w r = ap (before x) (after_push xs w r)

after_refuses : (ws : List Raw) (e : BlockRefusal) → after_all ws (refuses e) ≡ refuses e
after_refuses [] e = refl
after_refuses (x ∷ xs) e = ap (before x) (after_refuses xs e)

after_gives : (ws vs : List Raw) → after_all ws (gives vs) ≡ gives (ws ++ vs)
after_gives [] vs = refl
after_gives (x ∷ xs) vs = ap (before x) (after_gives xs vs)

module _ (words : List Word) (limbs : List ℕ) (j : ℕ) (reader : Reader) (r : Reading)
    (inv : r ≡ after_all (raws (take j words)) (left reader (4 - j) j (packed 64 (drop j limbs)))) where
  opened : j < 4 → j < length limbs
      → r ≡ after_all (raws (take j words)) (reads reader.cut (suc (4 - (j + 1))) j reader.marks (reader.acc + room reader.cut * get_or limbs j 0 + 2 ^ 64 * room reader.cut * packed 64 (drop (j + 1) limbs)))
  opened h l =
      let n : 4 - j ≡ suc (4 - (j + 1)) = omega arith in
      let p = limbs_more limbs j l in
      let q = widen reader.cut reader.acc (get_or limbs j 0) (packed 64 (drop (j + 1) limbs)) in
      inv ∙ rw (n, p, q)

  pub one_more : (w : Word) (to : Reader) → j < 4 → j < length words → j < length limbs → Taken reader (get_or limbs j 0) j to (Ok w)
      → r ≡ after_all (raws (take (j + 1) (set words j w))) (left to (4 - (j + 1)) (j + 1) (packed 64 (drop (j + 1) limbs)))
  one_more w to h lw l t =
      let rest = left to (4 - (j + 1)) (j + 1) (packed 64 (drop (j + 1) limbs)) in
      let a = t (4 - (j + 1)) (packed 64 (drop (j + 1) limbs)) in
      let b = ap raws (take_more_set words j w lw) ∙ map-append raw (take j words) (w ∷ []) in
      opened h l ∙ ap (after_all (raws (take j words))) a ∙ sym (after_push (raws (take j words)) (raw w) rest) ∙ ap (λ (ws : List Raw). after_all ws rest) (sym b)

  pub refused : (e : BlockRefusal) (to : Reader) → j < 4 → j < length limbs → Taken reader (get_or limbs j 0) j to (Err e) → refuses e ≡ r
  refused e to h l t =
      let a = t (4 - (j + 1)) (packed 64 (drop (j + 1) limbs)) in
      sym (opened h l ∙ ap (after_all (raws (take j words))) a ∙ after_refuses (raws (take j words)) e)

  pub none_marked : j ≡ 4 → reader.cut ≡ true → refuses NoControl ≡ r
  none_marked h k =
      let n : 4 - j ≡ 0 = omega arith in
      sym ((rw (n, k) at inv) ∙ after_refuses (raws (take j words)) NoControl)

  pub finished : j ≡ 4 → length words ≡ 4 → reader.cut ≡ false → gives (raws words) ≡ r
  finished h l k =
      let n : 4 - j ≡ 0 = omega arith in
      let w : take j words ≡ words = take_all j words (omega arith) in
      sym ((rw (n, k) at inv) ∙ after_gives (raws (take j words)) [] ∙ ap gives (append-nil (raws (take j words)) ∙ ap raws w))
