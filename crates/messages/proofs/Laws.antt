-- The two laws of a message.
use Rattle.std.proofs.Common.{◌≡◌, ℕ, zero, suc, ◌+◌, ◌*◌, ◌/◌, ◌%◌, ◌^◌, ◌<◌, List, [], ◌∷◌, ◌++◌, length, take, drop, sym, refl, ap, pow-suc, arith}
use Rattle.std.proofs.lemmas.List.{length-take-le, length-drop, take-append-drop, take_at, drop_at, length-append}
use Rattle.words.specs.Raw.{Raw, AllValid}
use Rattle.blocks.specs.Numbers.{block}
use Rattle.blocks.specs.Packed.{packed}
use Rattle.blocks.specs.Reading.{Reading, gives, refuses, read_block}
use Rattle.blocks.proofs.Laws as blocks
use Rattle.blocks.proofs.Bounds.{block_lt}
use Rattle.messages.specs.Numbers.{message}
use Rattle.messages.specs.Reading.{MessageReading, gives_all, refuses_at, next, read_message}
use Rattle.symbols.specs.Symbols.{Symbols}

pub valid_take : (n : ℕ) (ws : List Raw) → AllValid ws → AllValid (take n ws)
valid_take zero ws v = tt
valid_take (suc n) [] v = tt
valid_take (suc n) (w ∷ ws) v = (v.0, valid_take n ws v.1)

pub valid_drop : (n : ℕ) (ws : List Raw) → AllValid ws → AllValid (drop n ws)
valid_drop zero ws v = v
valid_drop (suc n) [] v = tt
valid_drop (suc n) (w ∷ ws) v = valid_drop n ws v.1

pub valid_append : (xs ys : List Raw) → AllValid xs → AllValid ys → AllValid (xs ++ ys)
valid_append [] ys v u = u
valid_append (x ∷ xs) ys v u = (v.0, valid_append xs ys v.1 u)

empty : (ws : List Raw) → length ws ≡ 0 → ws ≡ []
empty [] e = refl
empty (w ∷ ws) e = absurd (omega arith)

-- reading what was written
pub back : (n b : ℕ) (ws : List Raw) → length ws ≡ 4 * n → AllValid ws → read_message n b (message n ws) ≡ gives_all ws
unfolding read_message message
back zero b ws h v = ap gives_all (sym (empty ws (omega arith)))
back (suc n) b ws h v =
    let k : length (take 4 ws) ≡ 4 = length-take-le 4 ws (omega arith) in
    let vt = valid_take 4 ws v in
    let l = block_lt (take 4 ws) k vt in
    let r = blocks.back (take 4 ws) k vt in
    let x : ℕ = message n (drop 4 ws) in
    let p : (block (take 4 ws) + 2 ^ 257 * x) % 2 ^ 257 ≡ block (take 4 ws) = omega arith in
    let q : (block (take 4 ws) + 2 ^ 257 * x) / 2 ^ 257 ≡ x = omega arith in
    let i = back n (b + 1) (drop 4 ws) (omega (arith, length-drop 4 ws)) (valid_drop 4 ws v) in
    rw (p, q, r, i) (ap gives_all (take-append-drop 4 ws))

-- writing what was read
record Parts (r : Reading) (m : MessageReading) (ws : List Raw) : Type 0 where
  group : List Raw
  rest : List Raw
  first : r ≡ gives group
  others : m ≡ gives_all rest
  is : ws ≡ group ++ rest

parts : (b : ℕ) (r : Reading) (m : MessageReading) (ws : List Raw) → next b r m ≡ gives_all ws → Parts r m ws
parts b (gives vs) (gives_all us) ws e = record { group = vs; rest = us; first = refl; others = refl; is = cc }
parts b (gives vs) (refuses_at c f) ws e = let z : ◌≡◌ {A = ℕ} 0 1 = cc in absurd (omega arith)
parts b (refuses f) (gives_all us) ws e = let z : ◌≡◌ {A = ℕ} 0 1 = cc in absurd (omega arith)
parts b (refuses f) (refuses_at c g) ws e = let z : ◌≡◌ {A = ℕ} 0 1 = cc in absurd (omega arith)

pub again : (n b x : ℕ) (ws : List Raw) → x < (2 ^ 257) ^ n → read_message n b x ≡ gives_all ws → (length ws ≡ 4 * n) × (message n ws ≡ x) × AllValid ws
unfolding read_message message
again zero b x ws h e = let f : ws ≡ [] = cc in rw f (omega arith, omega arith, tt)
again (suc n) b x ws h e =
    let p = parts b (read_block (x % 2 ^ 257)) (read_message n (b + 1) (x / 2 ^ 257)) ws e in
    let w = pow-suc (2 ^ 257) n in
    let g = blocks.again (x % 2 ^ 257) p.group (omega arith) p.first in
    let i = again n (b + 1) (x / 2 ^ 257) p.rest (omega arith) p.others in
    let t = take_at p.group p.rest 4 g.0 in
    let d = drop_at p.group p.rest 4 g.0 in
    let l = length-append p.group p.rest in
    rw p.is (omega (arith, l, g.0, i.0), rw (t, d, g.1, i.1) (omega arith), valid_append p.group p.rest g.2 i.2)

-- symbols are told by their bits

pub small_tail : (x : ℕ) (xs : List ℕ) → Symbols (x ∷ xs) → Symbols xs
small_tail x xs s k h = s (suc k) (omega arith)

pub packed_lt : (xs : List ℕ) → Symbols xs → packed 10 xs < 1024 ^ length xs
packed_lt [] s = omega arith
packed_lt (x ∷ xs) s =
    let i = packed_lt xs (small_tail x xs s) in
    let h : x < 1024 = s 0 (omega arith) in
    let p = pow-suc 1024 (length xs) in
    omega arith

pub packed_same : (xs ys : List ℕ) → length xs ≡ length ys → Symbols xs → Symbols ys → packed 10 xs ≡ packed 10 ys → xs ≡ ys
packed_same [] [] n s t e = refl
packed_same [] (y ∷ ys) n s t e = absurd (omega arith)
packed_same (x ∷ xs) [] n s t e = absurd (omega arith)
packed_same (x ∷ xs) (y ∷ ys) n s t e =
    let h : x < 1024 = s 0 (omega arith) in
    let k : y < 1024 = t 0 (omega arith) in
    let a : x ≡ y = low x y (packed 10 xs) (packed 10 ys) h k e in
    let b : packed 10 xs ≡ packed 10 ys = omega arith in
    let c = packed_same xs ys (omega arith) (small_tail x xs s) (small_tail y ys t) b in
    cc
  where
    low : (x y p q : ℕ) → x < 1024 → y < 1024 → x + 2 ^ 10 * p ≡ y + 2 ^ 10 * q → x ≡ y
    low x y p q h k e = omega arith

pub whole_lt : (xs : List ℕ) → length xs ≡ 514 → Symbols xs → packed 10 xs < (2 ^ 257) ^ 20
whole_lt xs n s = rw n at (packed_lt xs s)
