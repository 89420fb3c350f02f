-- What the loops of `sum` keep true.
use Rattle.std.proofs.Common.{◌≡◌, drop}
use lib.Bits.{bit_xor}
use Rattle.reed_solomon_decoder.specs.Errors.{sum_of}
use Rattle.reed_solomon_decoder.proofs.search.sum.Given as goal

abbrev pub invariant-loop-term : goal.invariant-loop-term
invariant-loop-term l = bit_xor l.sum (sum_of (drop l.term-index l.terms)) ≡ sum_of l.terms
