-- The tables of multiples: row i is i units times the generator's coefficients below the first.
use Rattle.std.proofs.Common.{◌≡◌, ℕ, zero, suc, ◌+◌, ◌*◌, ◌/◌, ◌%◌, ◌<◌, List, [], ◌∷◌, get_or, sym, refl, ap, ◌∙◌, ap₂, le_of_suc-le-suc, not-suc-le-zero, add-zero, add-suc, mod-lt, suc-add, zero-add, arith, lit<}
use lib.Bits.{bit_xor, xor_comm, xor_shifted}
use Rattle.field.specs.Field.{mul, mul_lowest, times_x, pow}
use Rattle.field.proofs.Laws.{mul_xor_l}
use Rattle.reed_solomon_algebra.specs.Polynomials.{plus, scale, times}
use Rattle.reed_solomon_algebra.specs.CodeWords.{generator}
use Rattle.reed_solomon_algebra.specs.Division.{below_first}

abbrev pub coefficients : List ℕ
coefficients = 904 ∷ 6 ∷ 701 ∷ 32 ∷ 656 ∷ 925 ∷ 900 ∷ 614 ∷ 391 ∷ 592 ∷ 265 ∷ 945 ∷ 290 ∷ 432 ∷ []

pub below_14 : below_first 14 ≡ coefficients
unfolding below_first generator times plus scale mul mul_lowest times_x pow
below_14 = refl

-- n rows: the multiples of g by i units and on
abbrev pub multiples : ℕ → ℕ → ℕ → List ℕ → List (List ℕ)
multiples zero unit i g = []
multiples (suc n) unit i g = scale (i * unit) g ∷ multiples n unit (suc i) g

multiples_at : (n unit i : ℕ) (g : List ℕ) (j : ℕ) → j < n → get_or (multiples n unit i g) j [] ≡ scale ((i + j) * unit) g
multiples_at zero unit i g j h = absurd (not-suc-le-zero h)
multiples_at (suc n) unit i g zero h = ap (λ (x : ℕ). scale (x * unit) g) (sym (add-zero i))
multiples_at (suc n) unit i g (suc j) h =
    multiples_at n unit (suc i) g j (le_of_suc-le-suc h)
    ∙ ap (λ (x : ℕ). scale (x * unit) g) (suc-add i j ∙ sym (add-suc i j))

pub row_at : (unit j : ℕ) → j < 32 → get_or (multiples 32 unit 0 coefficients) j [] ≡ scale (j * unit) (below_first 14)
row_at unit j h =
    multiples_at 32 unit 0 coefficients j h
    ∙ ap (λ (x : ℕ). scale (x * unit) coefficients) (zero-add j)
    ∙ ap (scale (j * unit)) (sym below_14)

-- an element is the sum of its five low and its five high bits
pub mul_halves : (a b : ℕ) → bit_xor (mul (a % 32) b) (mul (a / 32 * 32) b) ≡ mul a b
mul_halves a b =
    xor_comm (mul (a % 32) b) (mul (a / 32 * 32) b)
    ∙ sym (mul_xor_l (a / 32 * 32) (a % 32) b)
    ∙ ap (λ (x : ℕ). mul x b) (xor_shifted (a / 32) 5 (a % 32) (mod-lt a (lit< tt)) ∙ omega arith)

pub scale_halves : (a : ℕ) (g : List ℕ) → plus (scale (a % 32) g) (scale (a / 32 * 32) g) ≡ scale a g
unfolding plus scale
scale_halves a [] = refl
scale_halves a (b ∷ g) = ap₂ (λ (x : ℕ) (xs : List ℕ). x ∷ xs) (mul_halves a b) (scale_halves a g)
