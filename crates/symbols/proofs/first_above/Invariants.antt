-- Every number before the one looked at is a symbol.
use Rattle.std.proofs.Common.{ℕ, ◌<◌, get_or}
use Rattle.symbols.specs.Symbols.{Symbol}
use Rattle.symbols.proofs.first_above.Given as goal

abbrev pub invariant-loop-i : goal.invariant-loop-i
invariant-loop-i l = (k : ℕ) → k < l.i → Symbol (get_or l.list k 0)
