-- The damage done to a line.
use Rattle.std.specs.Prelude.{ℕ, zero, suc, List, [], ◌∷◌, bit_xor}

-- the first n symbols with bit 0 flipped
unfoldable pub flipped : ℕ → List ℕ → List ℕ
flipped zero xs = xs
flipped (suc n) [] = []
flipped (suc n) (x ∷ xs) = bit_xor x 1 ∷ flipped n xs
