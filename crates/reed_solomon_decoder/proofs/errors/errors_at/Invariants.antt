-- What the loops of `errors_at` keep true.
use Rattle.std.proofs.Common.{◌≡◌, ℕ, ◌<◌, get_or, take}
use Rattle.reed_solomon_algebra.specs.Polynomials.{Elements}
use Rattle.reed_solomon_decoder.specs.Errors.{Agrees, located}
use Rattle.reed_solomon_decoder.specs.Listed.{indices, places, values}
use Rattle.reed_solomon_decoder.proofs.errors.errors_at.Given as goal

abbrev pub invariant-loop-i : goal.invariant-loop-i
invariant-loop-i l =
    (places l.errors.items ≡ take l.i l.found)
    × ((k : ℕ) → k < l.i → Agrees l.s (located 528 (indices l.found)) (get_or (located 528 (indices l.found)) k 0) (get_or (values l.errors.items) k 0))
    × Elements (values l.errors.items)
