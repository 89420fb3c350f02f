-- What writing and reading a message promise, from the numbers that they compute with.
use Rattle.std.proofs.Common.{◌≡◌, ℕ, zero, suc, ◌+◌, ◌*◌, ◌/◌, ◌%◌, ◌^◌, ◌<◌, List, length, take, drop, Ok, Err, Result, sym, refl, ap, ◌∙◌, subst, pow-suc, arith}
use Rattle.std.proofs.lemmas.List.{length-map, length-take-le, length-drop, drop-drop}
use Rattle.symbols.specs.Symbols.{Symbols}
use Rattle.words.specs.Raw.{Raw, AllValid}
use Rattle.words.specs.Words.{raw, raws}
use Rattle.words.specs.declared.word.Word.{Word}
use Rattle.words.proofs.Same.{same_words}
use Rattle.blocks.specs.Packed.{packed}
use Rattle.blocks.specs.Numbers.{block}
use Rattle.blocks.specs.Blocks.{field, bit, BlockOf}
use Rattle.blocks.specs.Reading.{Reading, gives, refuses, read_block}
use Rattle.blocks.specs.declared.refusal.BlockRefusal.{BlockRefusal}
use Rattle.blocks.proofs.Bits.{field_above, field_bit}
use Rattle.blocks.proofs.Laws as of_block
use Rattle.blocks.proofs.Places.{by_the_rules}
use Rattle.blocks.proofs.Refused.{block_refused}
use Rattle.blocks.proofs.Unique.{one_block}
use Rattle.messages.specs.Messages.{group, block_at, MessageOf, Readable, FirstRefused, MessageRead, ReadsBack}
use Rattle.messages.specs.Numbers.{message, message_of}
use Rattle.messages.specs.Reading.{MessageReading, gives_all, refuses_at, next, read_message, Told}
use Rattle.messages.specs.declared.refusal.MessageRefusal.{MessageRefusal}
use Rattle.messages.specs.declared.refusal.MessageRefusal.TheVariants.{Symbol, Block}
use Rattle.messages.proofs.InPlace as in_place
use Rattle.messages.proofs.Laws.{valid_take, valid_drop, back, again, whole_lt}
use Rattle.messages.proofs.Symbols.{digits_packed}

-- writing

pub group_long : (ws : List Raw) (n b : ℕ) → length ws ≡ 4 * n → b < n → length (group ws b) ≡ 4
group_long ws n b e h = length-take-le 4 (drop (4 * b) ws) (let l = length-drop (4 * b) ws in omega arith)

pub group_valid : (ws : List Raw) (b : ℕ) → AllValid ws → AllValid (group ws b)
group_valid ws b v = valid_take 4 (drop (4 * b) ws) (valid_drop (4 * b) ws v)

pub by_the_rules_all : (ws : List Raw) (xs : List ℕ) → length ws ≡ 80 → AllValid ws → length xs ≡ 514 → Symbols xs → packed 10 xs ≡ message 20 ws → MessageOf ws xs
by_the_rules_all ws xs n v l s e =
    record {
      message = record { long = l; symbols = s };
      symbol_bits = λ i r h k. field_bit (packed 10 xs) (10 * i) 10 r k ∙ ap (λ (z : ℕ). bit z r) (in_place.symbol_at xs i s (omega arith));
      blocks = λ b h.
          (let p : block_at xs b ≡ block (group ws b) = ap (λ (x : ℕ). field x (257 * b) 257) e ∙ in_place.block_at 20 b ws n v h in
          subst (λ (x : ℕ). BlockOf (group ws b) x) (sym p) (by_the_rules (group ws b) (group_long ws 20 b n h) (group_valid ws b v)));
    }

pub written : (ws : List Raw) (xs : List ℕ) → length xs ≡ 514 → Symbols xs → packed 10 xs ≡ message 20 ws → xs ≡ message_of ws
unfolding message_of
written ws xs l s e = rw (← e) (sym (digits_packed xs 514 l s))

-- words have one message

number_of : (n : ℕ) (ws : List Raw) (x : ℕ) → x < (2 ^ 257) ^ n → ((b : ℕ) → b < n → field x (257 * b) 257 ≡ block (group ws b)) → x ≡ message n ws
unfolding message
number_of zero ws x h f = omega arith
number_of (suc n) ws x h f =
    let p = pow-suc (2 ^ 257) n in
    let low = f 0 (omega arith) in
    let high = number_of n (drop 4 ws) (x / 2 ^ 257) (omega arith) later in
    omega arith
  where
    later : (b : ℕ) → b < n → field (x / 2 ^ 257) (257 * b) 257 ≡ block (group (drop 4 ws) b)
    later b l =
        let e : 257 * suc b ≡ 257 + 257 * b = omega arith in
        let i : 4 * suc b ≡ 4 + 4 * b = omega arith in
        let g = rw (e, i) at (f (suc b) (omega arith)) in
        sym (field_above 257 x (257 * b) 257) ∙ g ∙ ap (λ (vs : List Raw). block (take 4 vs)) (sym (drop-drop (4 * b) 4 ws))

same_number : (ws : List Raw) (xs : List ℕ) → length ws ≡ 80 → AllValid ws → MessageOf ws xs → packed 10 xs ≡ message 20 ws
same_number ws xs n v m =
    number_of 20 ws (packed 10 xs) (whole_lt xs m.message.long m.message.symbols)
    (λ b h. one_block (group ws b) (block_at xs b) (block (group ws b)) (group_long ws 20 b n h) (m.blocks b h) (by_the_rules (group ws b) (group_long ws 20 b n h) (group_valid ws b v)))

joined : (r : Result (List Word) MessageRefusal) (ws : List Word) → Told r (gives_all (raws ws)) → r ≡ Ok ws
joined (Ok vs) ws e = let q : raws vs ≡ raws ws = cc in ap Ok (same_words vs ws q)
joined (Err (Symbol p)) ws e = absurd e
joined (Err (Block b f)) ws e = let z : ◌≡◌ {A = ℕ} 0 1 = cc in absurd (omega arith)

pub reads_back : (xs : List ℕ) (r : Result (List Word) MessageRefusal) → Told r (read_message 20 0 (packed 10 xs)) → ReadsBack xs r
reads_back xs r t ws n v m =
    let l : length (raws ws) ≡ 80 = length-map ws raw ∙ n in
    let e : read_message 20 0 (packed 10 xs) ≡ gives_all (raws ws) = ap (read_message 20 0) (same_number (raws ws) xs l v m) ∙ back 20 0 (raws ws) l v in
    joined r ws (rw e at t)

-- reading

-- a reading of n blocks from block b on that is refused
record Seen (n b x c : ℕ) (e : BlockRefusal) : Type 0 where
  i : ℕ
  is : c ≡ b + i
  within : i < n
  refused : read_block (field x (257 * i) 257) ≡ refuses e
  earlier : (k : ℕ) → k < i → (ws : List Raw) × (read_block (field x (257 * k) 257) ≡ gives ws)

later_part : (b : ℕ) (ws : List Raw) (m : MessageReading) (c : ℕ) (e : BlockRefusal) → next b (gives ws) m ≡ refuses_at c e → m ≡ refuses_at c e
later_part b ws (gives_all vs) c e q = let z : ◌≡◌ {A = ℕ} 0 1 = cc in absurd (omega arith)
later_part b ws (refuses_at d f) c e q = q

lowest : (x : ℕ) → field x (257 * 0) 257 ≡ x % 2 ^ 257
lowest x = omega arith

block_above : (x i : ℕ) → field x (257 * suc i) 257 ≡ field (x / 2 ^ 257) (257 * i) 257
block_above x i = let e : 257 * suc i ≡ 257 + 257 * i = omega arith in rw e (field_above 257 x (257 * i) 257)

seen_more : (n b x c : ℕ) (e : BlockRefusal) (ws : List Raw) → read_block (x % 2 ^ 257) ≡ gives ws → Seen n (b + 1) (x / 2 ^ 257) c e → Seen (suc n) b x c e
seen_more n b x c e ws g s =
    record {
      i = suc s.i;
      is = (let h = s.is in omega arith);
      within = (let h = s.within in omega arith);
      refused = ap read_block (block_above x s.i) ∙ s.refused;
      earlier = early;
    }
  where
    early : (k : ℕ) → k < suc s.i → (vs : List Raw) × (read_block (field x (257 * k) 257) ≡ gives vs)
    early zero h = (ws, ap read_block (lowest x) ∙ g)
    early (suc k) h = let p = s.earlier k (omega arith) in (p.0, ap read_block (block_above x k) ∙ p.1)

seen_here : (n b x c : ℕ) (e f : BlockRefusal) → read_block (x % 2 ^ 257) ≡ refuses f → refuses_at b f ≡ refuses_at c e → Seen (suc n) b x c e
seen_here n b x c e f g q =
    let p : f ≡ e = cc in
    let at : b ≡ c = cc in
    record { i = 0; is = omega arith; within = omega arith; refused = ap read_block (lowest x) ∙ g ∙ ap refuses p; earlier = λ k h. absurd (omega arith) }

by_first : (n b x c : ℕ) (e : BlockRefusal) (r : Reading) (rest : MessageReading) → (rest ≡ refuses_at c e → Seen n (b + 1) (x / 2 ^ 257) c e)
    → read_block (x % 2 ^ 257) ≡ r → next b r rest ≡ refuses_at c e → Seen (suc n) b x c e
by_first n b x c e (gives ws) rest later g q = seen_more n b x c e ws g (later (later_part b ws rest c e q))
by_first n b x c e (refuses f) rest later g q = seen_here n b x c e f g q

first_seen : (n b x c : ℕ) (e : BlockRefusal) → read_message n b x ≡ refuses_at c e → Seen n b x c e
unfolding read_message
first_seen zero b x c e q = let z : ◌≡◌ {A = ℕ} 0 1 = cc in absurd (omega arith)
first_seen (suc n) b x c e q =
    by_first n b x c e (read_block (x % 2 ^ 257)) (read_message n (b + 1) (x / 2 ^ 257)) (first_seen n (b + 1) (x / 2 ^ 257) c e) refl q

field_lt : (x at : ℕ) → field x at 257 < 2 ^ 257
field_lt x at = let y : ℕ = x / 2 ^ at in omega arith

readable : (x at : ℕ) (ws : List Raw) → read_block (field x at 257) ≡ gives ws → Readable (field x at 257)
readable x at ws q =
    let a = of_block.again (field x at 257) ws (field_lt x at) q in
    (ws, a.0, a.2, subst (λ (y : ℕ). BlockOf ws y) a.1 (by_the_rules ws a.0 a.2))

refused_of : (xs : List ℕ) (b : ℕ) (e : BlockRefusal) → Symbols xs → Seen 20 0 (packed 10 xs) b e → FirstRefused xs b e
refused_of xs b e s f =
    let at : f.i ≡ b = (let h = f.is in omega arith) in
    subst (λ (k : ℕ). FirstRefused xs k e) at
    (record {
      symbols = s;
      within = f.within;
      refused = block_refused (block_at xs f.i) e f.refused;
      earlier = λ k h. (let p = f.earlier k h in readable (packed 10 xs) (257 * k) p.0 p.1);
    })

pub message_read : (xs : List ℕ) (r : Result (List Word) MessageRefusal) → length xs ≡ 514 → Symbols xs → Told r (read_message 20 0 (packed 10 xs)) → MessageRead xs r
message_read xs (Ok ws) n s t =
    let a = again 20 0 (packed 10 xs) (raws ws) (whole_lt xs n s) (sym t) in
    (a.2, by_the_rules_all (raws ws) xs a.0 a.2 n s (sym a.1))
message_read xs (Err (Symbol p)) n s t = absurd t
message_read xs (Err (Block b e)) n s t = refused_of xs b e s (first_seen 20 0 (packed 10 xs) b e (sym t))

pub written_again : (xs : List ℕ) (ws : List Word) → length xs ≡ 514 → Symbols xs → Told (Ok ws) (read_message 20 0 (packed 10 xs)) → message_of (raws ws) ≡ xs
written_again xs ws n s t =
    let a = again 20 0 (packed 10 xs) (raws ws) (whole_lt xs n s) (sym t) in
    sym (written (raws ws) xs n s (sym a.1))
