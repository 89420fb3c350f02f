-- What the loops of `dot_with` keep true.
use Rattle.std.proofs.Common.{◌≡◌}
use lib.Bits.{bit_xor}
use Rattle.reed_solomon_decoder.specs.Errors.{dot}
use Rattle.reed_solomon_decoder.proofs.elimination.dot_with.Given as goal

abbrev pub invariant-loop-c : goal.invariant-loop-c
invariant-loop-c l = bit_xor l.sum (dot l.c-iterator.a.rest.now l.c-iterator.b.rest.now) ≡ dot l.p l.s
