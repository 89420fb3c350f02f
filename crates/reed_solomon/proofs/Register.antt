-- The loops of the division, and the line that they leave.
use Rattle.std.proofs.Common.{◌≡◌, ℕ, ◌<◌, List, [], ◌∷◌, ◌++◌, ◌-◌, length, get_or, take, drop, refl, ap, ◌∙◌, ap₂, not-suc-le-zero, arith, length-drop, length-append, take_at}
use lib.Bits.{bit_xor}
use Rattle.symbols.specs.Symbols.{Symbols}
use Rattle.reed_solomon_algebra.specs.Polynomials.{plus, scale}
use Rattle.reed_solomon_algebra.specs.Division.{below_first, step, remainder, parity, encode}
use Rattle.reed_solomon_algebra.proofs.Generator.{elements}
use Rattle.reed_solomon_algebra.proofs.Division.{step_elements}

-- the tail moved up by one place, with the multiples added, is a step of the division
pub stepped : (g tail : List ℕ) (s : ℕ) → 0 < length tail
    → plus (drop 1 tail ++ 0 ∷ []) (scale (bit_xor s (get_or tail 0 0)) g) ≡ step g tail s
unfolding step
stepped g [] s h = absurd (not-suc-le-zero h)
stepped g (r ∷ rs) s h = refl

pub step_symbols : (old : List ℕ) (s : ℕ) → Symbols old → Symbols (step (below_first 14) old s)
step_symbols old s w i h = step_elements (below_first 14) old s (elements old w) i

pub remainder_more : (g r : List ℕ) (s : ℕ) (rest : List ℕ) → remainder g r (s ∷ rest) ≡ remainder g (step g r s) rest
unfolding remainder
remainder_more g r s rest = refl

pub remainder_none : (g r : List ℕ) → remainder g r [] ≡ r
unfolding remainder
remainder_none g r = refl

-- the message, and behind it its parity; `part` is the front of the line after the copy
pub formed : (m line part tail : List ℕ) → length m ≡ 514 → length line ≡ 528 → part ≡ m → tail ≡ parity 7 m
    → take (length (part ++ drop 514 line) - 14) (part ++ drop 514 line) ++ tail ≡ encode 7 m
unfolding encode
formed m line part tail long wide copied is =
    let xs = part ++ drop 514 line in
    let front : length part ≡ 514 = ap length copied ∙ long in
    let at : length xs - 14 ≡ 514 = omega (arith, length-append part (drop 514 line), length-drop 514 line) in
    ap₂ ◌++◌ (ap (λ (n : ℕ). take n xs) at ∙ take_at part (drop 514 line) 514 front ∙ copied) is
