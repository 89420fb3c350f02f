-- Terms of a polynomial as exponents of α: definitions for the search over the places of a line.
use Rattle.std.specs.Prelude.{◌≡◌, ℕ, ◌<◌, cond, List, length, nat_le, slice_index}
use Rattle.field.specs.Field.{mul, pow, α}

-- an exponent from 1,023 on stands for 0
unfoldable pub term_of : ℕ → ℕ
term_of e = cond (nat_le 1023 e) 0 (pow α e)

-- the terms of u at α^n, each lowered by its power of α
abbrev pub Lowered : List ℕ → ℕ → List ℕ → Type 0
Lowered u n ts = (k : ℕ) → k < length u → mul (pow α k) (slice_index ts k) ≡ mul (slice_index u k) (pow (pow α n) k)
