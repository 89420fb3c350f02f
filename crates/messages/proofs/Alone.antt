-- Eighty valid words have a message, and no other eighty have the same.
use Rattle.std.proofs.Common.{◌≡◌, ℕ, zero, suc, ◌*◌, ◌^◌, ◌<◌, List, length, take, drop, sym, ap, ◌∙◌, pow-suc, arith}
use Rattle.std.proofs.lemmas.List.{length-map, length-take-le, length-drop}
use Rattle.words.specs.Raw.{Raw, AllValid}
use Rattle.words.specs.Words.{raw, raws}
use Rattle.words.specs.declared.word.Word.{Word}
use Rattle.words.proofs.Same.{same_words}
use Rattle.blocks.specs.Packed.{packed}
use Rattle.blocks.proofs.Bounds.{block_lt}
use Rattle.messages.specs.Messages.{MessageOf}
use Rattle.messages.specs.Numbers.{message, message_of}
use Rattle.messages.specs.Reading.{gives_all, read_message}
use Rattle.messages.proofs.Laws.{valid_take, valid_drop, back}
use Rattle.messages.proofs.Symbols.{digits_long, digits_symbols, packed_digits}
use Rattle.messages.proofs.Promised.{by_the_rules_all}

message_lt : (n : ℕ) (ws : List Raw) → length ws ≡ 4 * n → AllValid ws → message n ws < (2 ^ 257) ^ n
unfolding message
message_lt zero ws h v = omega arith
message_lt (suc n) ws h v =
    let b = block_lt (take 4 ws) (length-take-le 4 ws (omega arith)) (valid_take 4 ws v) in
    let i = message_lt n (drop 4 ws) (omega (arith, length-drop 4 ws)) (valid_drop 4 ws v) in
    let p = pow-suc (2 ^ 257) n in
    omega arith

bits_of : (ws : List Raw) → length ws ≡ 80 → AllValid ws → packed 10 (message_of ws) ≡ message 20 ws
unfolding message_of
bits_of ws n v = packed_digits 514 (message 20 ws) (message_lt 20 ws n v)

pub has_message : (ws : List Raw) → length ws ≡ 80 → AllValid ws → MessageOf ws (message_of ws)
unfolding message_of
has_message ws n v = by_the_rules_all ws (message_of ws) n v (digits_long 514 (message 20 ws)) (digits_symbols 514 (message 20 ws)) (bits_of ws n v)

pub no_other : (v w : List Word) → length v ≡ 80 → length w ≡ 80 → AllValid (raws v) → AllValid (raws w) → message_of (raws v) ≡ message_of (raws w) → v ≡ w
no_other v w nv nw hv hw e =
    let lv : length (raws v) ≡ 80 = length-map v raw ∙ nv in
    let lw : length (raws w) ≡ 80 = length-map w raw ∙ nw in
    let same : message 20 (raws v) ≡ message 20 (raws w) = sym (bits_of (raws v) lv hv) ∙ ap (packed 10) e ∙ bits_of (raws w) lw hw in
    let p : gives_all (raws v) ≡ gives_all (raws w) = sym (back 20 0 (raws v) lv hv) ∙ ap (read_message 20 0) same ∙ back 20 0 (raws w) lw hw in
    let q : raws v ≡ raws w = cc in
    same_words v w q
