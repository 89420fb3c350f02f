-- What the loops of `reduce` keep true.
use Rattle.std.proofs.Common.{◌≡◌, ℕ, ◌<◌, ◌≤◌, [], length, get_or}
use Rattle.reed_solomon_decoder.specs.Kernel.{Reduced}
use Rattle.reed_solomon_decoder.proofs.elimination.reduce.Given as goal

abbrev pub invariant-loop-row : goal.invariant-loop-row
invariant-loop-row l =
    ((i : ℕ) → i < l.row-index → Reduced l.window (get_or l.row-items i []) (get_or l.fn.rows i []) l.pivot)
    × ((i : ℕ) → l.row-index ≤ i → get_or l.row-items i [] ≡ get_or l.fn.rows i [])
    × (length l.row-items ≡ length l.fn.rows)
