-- What the loops of `divide` keep true.
use Rattle.std.proofs.Common.{◌≡◌, drop}
use Rattle.symbols.specs.Symbols.{Symbols}
use Rattle.reed_solomon_algebra.specs.Division.{below_first, remainder, parity}
use Rattle.reed_solomon.proofs.division.divide.Given as goal

-- what the rest of the message makes of the tail is the parity
abbrev pub invariant-loop-s : goal.invariant-loop-s
invariant-loop-s l = (remainder (below_first 14) l.tail (drop l.s-index l.message) ≡ parity 7 l.message) × Symbols l.tail
