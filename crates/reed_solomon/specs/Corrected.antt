-- A definition for proofs: a line with errors taken from it.
use Rattle.std.specs.Prelude.{ℕ, List, [], ◌∷◌}
use Rattle.field.specs.Field.{add}
use Rattle.reed_solomon_algebra.specs.Terms.{Term}
use Rattle.reed_solomon_decoder.specs.Errors.{at}

-- each symbol with what stands at its locator added
unfoldable pub corrected : List Term → List ℕ → List ℕ → List ℕ
corrected e [] xs = []
corrected e (l ∷ ls) [] = l ∷ ls
corrected e (l ∷ ls) (x ∷ xs) = add l (at x e) ∷ corrected e ls xs
