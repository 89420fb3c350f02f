-- For proofs: what is left to place above the bits that a block has before its bodies.
use Rattle.std.specs.Prelude.{◌≡◌, ℕ, ◌+◌, ◌*◌, ◌^◌, ◌<◌, Bool, true, false, List, ◌∷◌}
use Rattle.words.specs.Raw.{Raw, data_word, control_word, Valid}
use Rattle.blocks.specs.Numbers.{whole, cut, block}
use Rattle.blocks.specs.Widths.{weight}
use Rattle.blocks.specs.declared.writing.Writer.{Writer}

-- the bodies from here on, above the 5 bits or the 1 that stand below
abbrev pub above : Bool → List Raw → ℕ
above true ws = 32 * cut ws
above false ws = 2 * whole ws

-- whether a nibble is still to be cut out after a word
abbrev pub cutting_after : Raw → Bool → Bool
cutting_after (data_word b) cutting = cutting
cutting_after (control_word b) cutting = false

pub record Placed (w : Raw) (cutting : Bool) (bits : ℕ) : Type 0 where
  pub valid : Valid w
  pub places : (ws : List Raw) → above cutting (w ∷ ws) ≡ bits + 2 ^ 64 * above (cutting_after w cutting) ws
  pub fits : (acc : ℕ) → acc < weight cutting → acc + bits < 2 ^ 64 * weight (cutting_after w cutting)

-- the bits that wait, with the words `ws` still to come above them
abbrev pub with_rest : Writer → List Raw → ℕ
with_rest writer ws = writer.acc + above writer.cutting ws

-- the word is placed above the bits that wait, and then the lowest limb is taken off
pub record Put (w : Raw) (from : Writer) (limb : ℕ) (to : Writer) : Type 0 where
  pub valid : Valid w
  pub places : (ws : List Raw) → with_rest from (w ∷ ws) ≡ limb + 2 ^ 64 * with_rest to ws

-- the bits below the bodies wait: bit 0 and the marks, or bit 0 alone
abbrev pub Opened : List Raw → Writer → Type 0
Opened ws writer = with_rest writer ws ≡ block ws
