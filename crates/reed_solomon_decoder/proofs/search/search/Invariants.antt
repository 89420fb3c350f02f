-- What the loops of `search` keep true.
use Rattle.std.proofs.Common.{◌≡◌, ◌-◌, ◌++◌, length}
use Rattle.reed_solomon_algebra.specs.Polynomials.{Elements}
use Rattle.reed_solomon_decoder.specs.Errors.{located, roots_below}
use Rattle.reed_solomon_decoder.specs.Exponents.{Lowered}
use Rattle.reed_solomon_decoder.specs.Listed.{indices}
use Rattle.reed_solomon_decoder.proofs.search.search.Given as goal

-- the locators found and the roots still to come are all
abbrev pub invariant-loop-index : goal.invariant-loop-index
invariant-loop-index l =
    (located 528 (indices l.places.items) ++ roots_below l.u (528 - l.index) ≡ roots_below l.u 528)
    × Lowered l.u (528 - l.index) l.terms
    × (length l.terms ≡ 8)
    × Elements l.terms
