-- So many symbols are flipped.
use Rattle.std.proofs.Common.{◌≡◌}
use Rattle.loopback.specs.Damage.{flipped}
use Rattle.loopback.proofs.carrying.flip.Given as goal

abbrev pub invariant-loop-symbol : goal.invariant-loop-symbol
invariant-loop-symbol l = l.symbol-items ≡ flipped l.symbol-index l.initial.symbol-items
