-- The places before i have the list added, the others are as they were.
use Rattle.std.proofs.Common.{◌≡◌, ℕ, ◌<◌, ◌≤◌, get_or}
use lib.Bits.{bit_xor}
use Rattle.code.proofs.sequence.add.Given as goal

abbrev pub invariant-loop-i : goal.invariant-loop-i
invariant-loop-i l =
    ((k : ℕ) → k < l.i → get_or l.line k 0 ≡ bit_xor (get_or l.initial.line k 0) (get_or l.list k 0))
    × ((k : ℕ) → l.i ≤ k → get_or l.line k 0 ≡ get_or l.initial.line k 0)
