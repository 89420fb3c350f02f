-- Groups of four words, and a turn of the writer.
use Rattle.std.proofs.Common.{◌≡◌, ℕ, suc, ◌+◌, ◌*◌, ◌/◌, ◌^◌, List, [], ◌∷◌, length, take, drop, sym, refl, ap, ◌∙◌, arith}
use Rattle.std.proofs.lemmas.List.{take-map, drop-map, map-append, take-append-drop, take_all}
use Rattle.words.specs.Raw.{Raw, AllValid}
use Rattle.blocks.specs.Numbers.{block}
use Rattle.blocks.specs.Packed.{onto, packed}
use Rattle.words.specs.Words.{raw, raws}
use Rattle.words.specs.declared.word.Word.{Word}
use Rattle.messages.specs.Numbers.{message}
use Rattle.messages.proofs.Laws.{valid_append}
use Rattle.symbols.specs.Symbols.{Symbols}
use Rattle.messages.specs.Writers.{count, under, Pushed}
use Rattle.messages.specs.declared.bits.Writer.{Writer}

pub message_more : (n : ℕ) (ws : List Word) → message (suc n) (raws ws) ≡ block (raws (take 4 ws)) + 2 ^ 257 * message n (raws (drop 4 ws))
unfolding message
message_more n ws = rw (take-map raw 4 ws, drop-map raw 4 ws)

pub message_none : (ws : List Raw) → message 0 ws ≡ 0
unfolding message
message_none ws = refl

pub valid_four : (ws : List Word) → AllValid (raws (take 4 ws)) → AllValid (raws (drop 4 ws)) → AllValid (raws ws)
valid_four ws v u =
    let e = ap raws (take-append-drop 4 ws) in
    rw (← e, map-append raw (take 4 ws) (drop 4 ws)) (valid_append (raws (take 4 ws)) (raws (drop 4 ws)) v u)

-- nothing is written yet
pub first : (w : Writer) (n : ℕ) (ws : List Word) → w.acc ≡ 0 → w.fill ≡ 0 → w.at ≡ 0 → n ≡ 20 → under w (message n (raws ws)) ≡ message 20 (raws ws)
first w n ws a f z e = rw (a, f, z, e) (omega arith)

-- a turn of the writer
pub turn : {a b : Writer} (value total : ℕ) (rest after : List Word) → value ≡ block (raws (take 4 rest)) → after ≡ drop 4 rest → length after + 4 ≡ length rest
    → Pushed value 257 a b → under a (message (length rest / 4) (raws rest)) ≡ total → under b (message (length after / 4) (raws after)) ≡ total
turn {a} value total rest after v d l p e =
    let n : length rest / 4 ≡ suc (length after / 4) = omega arith in
    let more : ℕ = message (length after / 4) (raws after) in
    let s : message (length after / 4) (raws (drop 4 rest)) ≡ more = ap (λ (l : List Word). message (length after / 4) (raws l)) (sym d) in
    let q : value + 2 ^ 257 * more ≡ message (length rest / 4) (raws rest) = rw (n, message_more (length after / 4) rest, s, v) in
    p.means more ∙ ap (under a) q ∙ e

-- no word is left
pub none_left : (ws : List Word) → length ws ≡ 0 → AllValid (raws ws)
none_left [] h = tt
none_left (w ∷ ws) h = absurd (omega arith)

pub done : (w : Writer) (total : ℕ) (ws : List Raw) → length w.out.now ≡ 514 → count w ≡ 5140 → Symbols (take w.at w.out.now) → under w (message 0 ws) ≡ total → (packed 10 w.out.now ≡ total) × Symbols w.out.now
done w total ws n k small e =
    let held = w.held in
    let few = w.few in
    let a : w.at ≡ 514 = omega arith in
    let f : w.fill ≡ 0 = omega arith in
    let h = rw f at held in
    let z : w.acc ≡ 0 = omega arith in
    let t : take w.at w.out.now ≡ w.out.now = take_all w.at w.out.now (omega arith) in
    let g : w.acc + 2 ^ w.fill * message 0 ws ≡ 0 = rw (z, f, message_none ws) (omega arith) in
    (sym (ap (λ (l : List ℕ). onto 10 l 0) t) ∙ sym (ap (onto 10 (take w.at w.out.now)) g) ∙ e, rw t at small)
