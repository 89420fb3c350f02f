-- What the loops of `value_at` keep true.
use Rattle.std.proofs.Common.{◌≡◌, ℕ, ◌+◌, ◌<◌, List, length, get_or}
use Rattle.reed_solomon_algebra.specs.Terms.{Term, power_sum, Small}
use Rattle.reed_solomon_decoder.specs.Errors.{SumsFrom, located, passed, weigh_by}
use Rattle.reed_solomon_decoder.specs.Listed.{indices}
use Rattle.reed_solomon_decoder.proofs.evaluation.value_at.Given as goal

-- the sums that the turns to come still read are those of the errors, each times the ways to the locators passed
abbrev pub invariant-loop-k : goal.invariant-loop-k
invariant-loop-k l =
    (l.way ≡ passed (located 528 (indices l.places)) l.i l.k (get_or (located 528 (indices l.places)) l.i 0))
    × ((e : List Term) → Small e → SumsFrom 0 l.s e → (j : ℕ) → j + l.k < length l.places + 1
    → get_or l.sums j 0 ≡ power_sum j (weigh_by (passed (located 528 (indices l.places)) l.i l.k) e))
    × (length l.sums ≡ 14)
