use Rattle.std.proofs.Common.{◌≡◌, ◌++◌, get_or, set, take, drop, refl, ap, ◌∙◌, arith}
use Rattle.std.proofs.lemmas.List.{length-take-le}
use lib.Bits.{bit_xor}
use Rattle.loopback.specs.Damage.{flipped}
use Rattle.loopback.proofs.Flips.{flipped_more, flipped_front}
use Rattle.loopback.proofs.carrying.flip.Goals as goal

pub loop-symbol-init : goal.loop-symbol-init
unfolding flipped
loop-symbol-init c = refl

pub loop-symbol-preserved : goal.loop-symbol-preserved
loop-symbol-preserved c =
    let i = c.loop-symbol.symbol-index in
    ap (λ xs. set xs i (bit_xor (get_or xs i 0) 1)) c.loop-symbol.invariant ∙ flipped_more i (take 7 c.args.line.now) (omega arith)

pub returns : goal.returns
returns c =
    let l = length-take-le 7 c.args.line.now c.requires in
    let e : c.loop-symbol.symbol-index ≡ 7 = omega arith in
    ap (λ xs. xs ++ drop 7 c.args.line.now) (c.loop-symbol.invariant ∙ ap (λ n. flipped n (take 7 c.args.line.now)) e) ∙ flipped_front 7 c.args.line.now c.requires
