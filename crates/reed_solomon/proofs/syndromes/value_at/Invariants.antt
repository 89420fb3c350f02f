-- What the loops of `value_at` keep true.
use Rattle.std.proofs.Common.{◌≡◌, reverse, take}
use Rattle.reed_solomon_algebra.specs.Polynomials.{value}
use Rattle.reed_solomon.proofs.syndromes.value_at.Given as goal

abbrev pub invariant-loop-symbol : goal.invariant-loop-symbol
invariant-loop-symbol l = l.sum ≡ value l.x (reverse (take l.symbol-index l.rest))
