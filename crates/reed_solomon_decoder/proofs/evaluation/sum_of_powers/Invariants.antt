-- What the loops of `sum_of_powers` keep true.
use Rattle.std.proofs.Common.{◌≡◌, drop}
use lib.Bits.{bit_xor}
use Rattle.reed_solomon_algebra.specs.Terms.{power_sum}
use Rattle.reed_solomon_decoder.specs.Listed.{listed}
use Rattle.reed_solomon_decoder.proofs.evaluation.sum_of_powers.Given as goal

abbrev pub invariant-loop-error : goal.invariant-loop-error
invariant-loop-error l = bit_xor l.sum (power_sum l.j (listed (drop l.error-index l.errors))) ≡ power_sum l.j (listed l.errors)
