-- What makes these numbers the field: a commutative ring in which all but 0 has an inverse, and α generates the rest.
use Rattle.std.specs.Prelude.{◌≡◌, ℕ, ◌^◌, ◌<◌, ◌≢◌, ◌⊎◌}
use Rattle.field.specs.Field.{add, mul, pow, inv, α}

-- the laws hold for all numbers, but where a bound is written
pub record RingLaws : Type 0 where
  pub add_associates : (a b c : ℕ) → add (add a b) c ≡ add a (add b c)
  pub add_commutes : (a b : ℕ) → add a b ≡ add b a
  pub add_zero : (a : ℕ) → add a 0 ≡ a
  pub add_self : (a : ℕ) → add a a ≡ 0
  pub add_closed : (a b : ℕ) → a < 1024 → b < 1024 → add a b < 1024
  pub mul_associates : (a b c : ℕ) → mul (mul a b) c ≡ mul a (mul b c)
  pub mul_commutes : (a b : ℕ) → mul a b ≡ mul b a
  pub mul_one : (a : ℕ) → a < 1024 → mul a 1 ≡ a
  pub mul_closed : (a b : ℕ) → mul a b < 1024
  pub distributes : (a b c : ℕ) → mul a (add b c) ≡ add (mul a b) (mul a c)

-- every element but 0 has an inverse, so that no product of two such is 0
pub record InverseLaws : Type 0 where
  pub inverts : (a : ℕ) → 0 < a → a < 1024 → mul a (inv a) ≡ 1
  pub inverts_zero : inv 0 ≡ 0
  pub no_zero_divisors : (a b : ℕ) → a < 1024 → b < 1024 → mul a b ≡ 0 → (a ≡ 0) ⊎ (b ≡ 0)

-- α is x: its powers below the tenth are the numbers of one bit, and the tenth is x^3 + 1; its order is 1,023
pub record AlphaLaws : Type 0 where
  pub one_bit : (i : ℕ) → i < 10 → pow α i ≡ 2 ^ i
  pub modulus : pow α 10 ≡ add (pow α 3) 1
  pub whole : pow α 1023 ≡ 1
  pub distinct : (i j : ℕ) → i < j → j < 1023 → pow α i ≢ pow α j

pub record ExponentOf (a i : ℕ) : Type 0 where
  pub small : i < 1023
  pub gives : pow α i ≡ a
