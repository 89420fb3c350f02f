-- What the loops of `pull` keep true.
use Rattle.std.proofs.Common.{◌≡◌, ℕ, ◌+◌, ◌<◌, ◌≤◌, length, get_or}
use lib.Bits.{bit_xor}
use Rattle.field.specs.Field.{mul}
use Rattle.reed_solomon_decoder.proofs.evaluation.pull.Given as goal

abbrev pub invariant-loop-j : goal.invariant-loop-j
invariant-loop-j l =
    ((i : ℕ) → i < l.j → get_or l.sums i 0 ≡ bit_xor (get_or l.initial.sums (i + 1) 0) (mul l.x (get_or l.initial.sums i 0)))
    × ((i : ℕ) → l.j ≤ i → get_or l.sums i 0 ≡ get_or l.initial.sums i 0)
    × (length l.sums ≡ 14)
