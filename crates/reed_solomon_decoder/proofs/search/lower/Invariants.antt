-- What the loops of `lower` keep true.
use Rattle.std.proofs.Common.{◌≡◌, ℕ, ◌<◌, ◌≤◌, length, get_or}
use Rattle.field.specs.Field.{mul, pow}
use Rattle.reed_solomon_decoder.proofs.search.lower.Given as goal

abbrev pub invariant-loop-k : goal.invariant-loop-k
invariant-loop-k l =
    ((i : ℕ) → i < l.k → mul (pow 2 i) (get_or l.terms i 0) ≡ get_or l.initial.terms i 0)
    × ((i : ℕ) → i < l.k → get_or l.terms i 0 < 1024)
    × ((i : ℕ) → l.k ≤ i → get_or l.terms i 0 ≡ get_or l.initial.terms i 0)
    × (length l.terms ≡ 8)
