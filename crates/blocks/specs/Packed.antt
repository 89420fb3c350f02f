-- For proofs: numbers of w bits each, joined; the first has the lowest bits.
use Rattle.std.specs.Prelude.{ℕ, ◌+◌, ◌*◌, ◌^◌, List, [], ◌∷◌}

-- xs joined, and t above them
abbrev pub onto : ℕ → List ℕ → ℕ → ℕ
onto w [] t = t
onto w (x ∷ xs) t = x + 2 ^ w * onto w xs t

abbrev pub packed : ℕ → List ℕ → ℕ
packed w xs = onto w xs 0
