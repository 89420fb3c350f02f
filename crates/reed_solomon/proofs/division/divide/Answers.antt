-- What is left to show of `divide`.
use Rattle.std.proofs.Common.{◌≡◌, ℕ, ◌+◌, ◌<◌, List, get_or, drop, replicate, sym, refl, ap, ◌∙◌, subst, lit<}
use Rattle.std.proofs.lemmas.List.{at_drop_more, at_drop_all}
use Rattle.symbols.specs.Symbols.{Symbols}
use Rattle.reed_solomon_algebra.specs.Division.{below_first, remainder, parity}
use Rattle.reed_solomon_algebra.proofs.Divides.{zeros_at}
use Rattle.reed_solomon.proofs.Register.{step_symbols, remainder_more, remainder_none}
use Rattle.reed_solomon.proofs.division.divide.Goals as goal

from_zeros : (tail message : List ℕ) → tail ≡ replicate 14 0 → remainder (below_first 14) tail message ≡ parity 7 message
unfolding parity
from_zeros tail message e = ap (λ (r : List ℕ). remainder (below_first 14) r message) e

zero_symbols : (tail : List ℕ) → tail ≡ replicate 14 0 → Symbols tail
zero_symbols tail e k h =
    subst (λ (x : ℕ). x < 1024) (sym (ap (λ (l : List ℕ). get_or l k 0) e ∙ zeros_at 14 k)) (lit< tt)

pub loop-s-init : goal.loop-s-init
loop-s-init c = (from_zeros (replicate 14 0) c.args.message.now refl, zero_symbols (replicate 14 0) refl)

pub loop-s-preserved : goal.loop-s-preserved
loop-s-preserved c =
    let g = below_first 14 in
    let tail = c.loop-s.tail in
    let message = c.args.message.now in
    let s = get_or message c.loop-s.s-index 0 in
    let rest = drop (c.loop-s.s-index + 1) message in
    let more = at_drop_more (remainder g tail) message c.loop-s.s-index 0 c.loop-s-test.true in (
      ap (λ (r : List ℕ). remainder g r rest) c.step.ensures
          ∙ sym (remainder_more g tail s rest) ∙ sym more ∙ c.loop-s.invariant.0,
      subst Symbols (sym c.step.ensures) (step_symbols tail s c.loop-s.invariant.1),
    )

pub returns : goal.returns
returns c =
    let g = below_first 14 in
    let all = at_drop_all (remainder g c.loop-s.tail) c.args.message.now c.loop-s.s-index c.loop-s-test.false in
    sym (remainder_none g c.loop-s.tail) ∙ sym all ∙ c.loop-s.invariant.0
