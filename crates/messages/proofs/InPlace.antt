-- Symbols and blocks stand in a message where they should.
use Rattle.std.proofs.Common.{◌≡◌, ℕ, zero, suc, ◌+◌, ◌*◌, ◌<◌, List, [], ◌∷◌, length, get_or, take, drop, ap, ◌∙◌, arith}
use Rattle.std.proofs.lemmas.List.{length-take-le, length-drop, drop-drop}
use Rattle.words.specs.Raw.{Raw, AllValid}
use Rattle.blocks.specs.Numbers.{block}
use Rattle.blocks.specs.Packed.{packed}
use Rattle.blocks.proofs.Bounds.{block_lt}
use Rattle.messages.specs.Numbers.{message}
use Rattle.symbols.specs.Symbols.{Symbols}
use Rattle.blocks.specs.Blocks.{field}
use Rattle.blocks.proofs.Bits.{field_onto}
use Rattle.messages.proofs.Laws.{valid_take, valid_drop, small_tail}

pub symbol_at : (xs : List ℕ) (s : ℕ) → Symbols xs → s < length xs → field (packed 10 xs) (10 * s) 10 ≡ get_or xs s 0
symbol_at [] s m h = absurd (omega arith)
symbol_at (x ∷ xs) zero m h = let l = m 0 h in omega arith
symbol_at (x ∷ xs) (suc s) m h =
    let l : x < 1024 = m 0 (omega arith) in
    let e : 10 * suc s ≡ 10 + 10 * s = omega arith in
    rw e (field_onto 10 x (packed 10 xs) (10 * s) 10 (omega arith) ∙ symbol_at xs s (small_tail x xs m) (omega arith))

pub block_at : (n b : ℕ) (ws : List Raw) → length ws ≡ 4 * n → AllValid ws → b < n → field (message n ws) (257 * b) 257 ≡ block (take 4 (drop (4 * b) ws))
unfolding message
block_at zero b ws h v l = absurd (omega arith)
block_at (suc n) zero ws h v l =
    let k = block_lt (take 4 ws) (length-take-le 4 ws (omega arith)) (valid_take 4 ws v) in
    omega arith
block_at (suc n) (suc b) ws h v l =
    let k = block_lt (take 4 ws) (length-take-le 4 ws (omega arith)) (valid_take 4 ws v) in
    let e : 257 * suc b ≡ 257 + 257 * b = omega arith in
    let f : 4 * suc b ≡ 4 + 4 * b = omega arith in
    rw (e, f) (field_onto 257 (block (take 4 ws)) (message n (drop 4 ws)) (257 * b) 257 (omega arith)
    ∙ block_at n b (drop 4 ws) (omega (arith, length-drop 4 ws)) (valid_drop 4 ws v) (omega arith)
    ∙ ap (λ (l : List Raw). block (take 4 l)) (drop-drop (4 * b) 4 ws))
