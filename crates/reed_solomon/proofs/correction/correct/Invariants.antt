-- What the loops of `correct` keep true.
use Rattle.std.proofs.Common.{◌≡◌, ◌+◌, ◌≤◌, length, drop}
use Rattle.code.specs.Distance.{distance}
use Rattle.reed_solomon_algebra.specs.Terms.{Distinct, locators}
use Rattle.reed_solomon_decoder.specs.Listed.{listed}
use Rattle.reed_solomon.specs.Corrected.{corrected}
use Rattle.reed_solomon.proofs.correction.correct.Given as goal

-- the errors still to come make of the line what all make of it as it was, and go as much further as is not counted yet
abbrev pub invariant-loop-error : goal.invariant-loop-error
invariant-loop-error l =
    (corrected (listed (drop l.error-index l.errors)) l.line (locators 528) ≡ corrected (listed l.errors) l.initial.line (locators 528))
    × (l.changed + distance l.initial.line (corrected (listed (drop l.error-index l.errors)) l.initial.line (locators 528))
    ≡ distance l.initial.line (corrected (listed l.errors) l.initial.line (locators 528)))
    × (l.changed ≤ l.error-index)
    × Distinct (listed (drop l.error-index l.errors))
    × (length l.line ≡ 528)
