-- For proofs: reading bits from symbols: `fill` bits in `acc` wait below the symbols `rest`, which are still to be read.
use Rattle.std.specs.Prelude.{ℕ, ◌+◌, ◌*◌, ◌^◌, ◌<◌, List, length}
use Rattle.symbols.specs.Symbols.{Symbols}
use Rattle.blocks.specs.Packed.{packed}

-- the bits that are still to be read, as a number, and how many they are
pub record Ahead : Type 0 where
  pub bits : ℕ
  pub count : ℕ

abbrev pub ahead : ℕ → ℕ → List ℕ → Ahead
ahead acc fill rest = record { bits = acc + 2 ^ fill * packed 10 rest; count = fill + 10 * length rest }

pub record Waiting (acc fill : ℕ) (rest : List ℕ) : Type 0 where
  pub held : acc < 2 ^ fill
  pub few : fill < 10
  pub small : Symbols rest
