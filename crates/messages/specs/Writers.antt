-- For proofs: writing bits as symbols.
use Rattle.std.specs.Prelude.{◌≡◌, ℕ, ◌+◌, ◌*◌, ◌^◌, length, take}
use Rattle.blocks.specs.Packed.{onto}
use Rattle.symbols.specs.Symbols.{Symbols}
use Rattle.messages.specs.declared.bits.Writer.{Writer}

-- how many bits are written or wait
abbrev pub count : Writer → ℕ
count w = 10 * w.at + w.fill

-- the symbols that are written, the bits that wait above them, and `more` above these, as one number
abbrev pub under : Writer → ℕ → ℕ
under w more = onto 10 (take w.at w.out.now) (w.acc + 2 ^ w.fill * more)

-- the writer `to` is `from` with a value of so many bits above, whatever comes above it
pub record Pushed (value width : ℕ) (from to : Writer) : Type 0 where
  pub long : length to.out.now ≡ length from.out.now
  pub small : Symbols (take from.at from.out.now) → Symbols (take to.at to.out.now)
  pub counts : count to ≡ count from + width
  pub means : (more : ℕ) → under to more ≡ under from (value + 2 ^ width * more)
