-- What lies at the front of the place is what was taken of the input, and each turn fills more.
use Rattle.std.proofs.Common.{◌≡◌, ◌≤◌, ◌-◌, length, take}
use Rattle.std.specs.Io.KnownBytes.{Consumes}
use Rattle.loop_program.proofs.read_text.Given as goal

abbrev pub invariant-loop-filled : goal.invariant-loop-filled
invariant-loop-filled g l = (length l.text ≡ 1531) × (l.filled ≤ 1531) × Consumes (g.R.Read.remaining l.initial.input) (g.R.Read.remaining l.input) (take l.filled l.text)

abbrev pub decreases-loop-filled : goal.decreases-loop-filled
decreases-loop-filled g l = 1531 - l.filled
