-- Levels and their numbers.
use Rattle.std.proofs.Common.{◌≡◌, ℕ, zero, suc, ◌<◌, Bool, true, false, eqb, not, MatchBool, sym, refl, arith}
use Rattle.std.proofs.lemmas.Bool.{true≢false}
use Rattle.std.specs.Bool.{beq}
use Rattle.std.specs.Int.{from_bool}
use Rattle.signal.specs.Signal.{turned}

-- the level of a bit has its number
pub level_number : (x : ℕ) → x < 2 → from_bool (eqb x 1) ≡ x
level_number zero h = refl
level_number (suc zero) h = refl
level_number (suc (suc x)) h = absurd (omega arith)

pub level_small : (a : Bool) → from_bool a < 2
level_small true = omega arith
level_small false = omega arith

pub other_level : (a : Bool) → from_bool (not a) ≡ turned (from_bool a) 1
other_level true = refl
other_level false = refl

-- whether two levels differ is the sum of their numbers modulo 2
pub differing : (a b : Bool) → from_bool (not (beq a b)) ≡ turned (from_bool a) (from_bool b)
differing true true = refl
differing true false = refl
differing false true = refl
differing false false = refl

-- levels that a test finds the same, or different
pub found_same : (a b : Bool) → not (beq a b) ≡ false → a ≡ b
found_same true true e = refl
found_same true false e = absurd (true≢false e)
found_same false true e = absurd (true≢false e)
found_same false false e = refl

pub found_different : (a b : Bool) → not (beq a b) ≡ true → from_bool a ≡ from_bool b → ⊥
found_different true true e n = true≢false (sym e)
found_different true false e n = omega (arith, n)
found_different false true e n = omega (arith, n)
found_different false false e n = true≢false (sym e)

-- a test of two levels tells whether their numbers are the same
pub tested : (a b : Bool) → MatchBool (beq a b) (from_bool a ≡ from_bool b) (from_bool a ≡ from_bool b → ⊥)
tested true true = refl
tested true false = λ e. omega (arith, e)
tested false true = λ e. omega (arith, e)
tested false false = refl
