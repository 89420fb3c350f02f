-- The number of each mark, update and state, as the fields of a signal carry it. Nothing else repeats these numbers.
use Rattle.std.specs.Prelude.{◌≡◌, ℕ, ◌+◌, ◌*◌, ◌^◌, Result, MatchResult}
use Rattle.training.specs.declared.records.Mark.{Mark}
use Rattle.training.specs.declared.records.Mark.TheVariants.{Gfc16, Gfc32}
use Rattle.training.specs.declared.records.Update.{Update}
use Rattle.training.specs.declared.records.Update.TheVariants.{Hold, Increment, Decrement}
use Rattle.training.specs.declared.records.State.{State}
use Rattle.training.specs.declared.records.State.TheVariants.{Ready, Updated, Minimum, Maximum}
use Rattle.training.specs.declared.records.Coefficients.{Coefficients}

-- 1 and 2 are reserved
abbrev pub mark_number : Mark → ℕ
mark_number Gfc16 = 0
mark_number Gfc32 = 3

-- 3 is reserved
abbrev pub update_number : Update → ℕ
update_number Hold = 0
update_number Increment = 1
update_number Decrement = 2

abbrev pub state_number : State → ℕ
state_number Ready = 0
state_number Updated = 1
state_number Minimum = 2
state_number Maximum = 3

-- two bits for each coefficient
abbrev pub coefficients_number : {X : Type 0} → (X → ℕ) → Coefficients X → ℕ
coefficients_number number k = 2 ^ 4 * number k.c1 + 2 ^ 2 * number k.c0 + number k.cm1

-- some value has the number n
abbrev pub Named : {X : Type 0} → (X → ℕ) → ℕ → Type 0
Named {X} number n = (x : X) × (number x ≡ n)

-- the result is a value with the number n, or an error where no value has it
abbrev pub Names : {X E : Type 0} → (X → ℕ) → ℕ → Result X E → Type 0
Names number n r = MatchResult r (λ x. number x ≡ n) (λ e. Named number n → ⊥)

abbrev pub IsMark : ℕ → Type 0
IsMark n = Named mark_number n

abbrev pub IsUpdate : ℕ → Type 0
IsUpdate n = Named update_number n

abbrev pub IsState : ℕ → Type 0
IsState n = Named state_number n
