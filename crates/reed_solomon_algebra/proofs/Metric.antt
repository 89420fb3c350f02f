-- More laws of the distance.
use Rattle.std.proofs.Common.{◌≡◌, ℕ, ◌≤◌, List, [], ◌∷◌, ◌++◌, length, refl, arith}
use Rattle.std.proofs.lemmas.Bool.Decides.{nat_tests}
use Rattle.code.specs.Distance.{distance}

pub distance_within : (xs ys : List ℕ) → distance xs ys ≤ length xs
unfolding distance
distance_within [] ys = omega arith
distance_within (a ∷ xs) [] = omega arith
distance_within (a ∷ xs) (b ∷ ys) = let i = distance_within xs ys in grind (arith, nat_tests)

pub distance_append : (m a b : List ℕ) → distance (m ++ a) (m ++ b) ≡ distance a b
unfolding distance
distance_append [] a b = refl
distance_append (x ∷ m) a b = let i = distance_append m a b in grind (arith, nat_tests)
