-- The number, the place and the block of each refusal of a port.
use Rattle.std.specs.Prelude.{ℕ, None, Option}
use Rattle.code.specs.Refusals as of_code
use Rattle.messages.specs.Refusals as of_message
use Rattle.port.specs.declared.refusal.PortRefusal.{PortRefusal}
use Rattle.port.specs.declared.refusal.PortRefusal.TheVariants.{Opening, Length, Full, Code, Message}

abbrev pub number : PortRefusal → ℕ
number Opening = 41
number Length = 42
number Full = 43
number (Code e) = of_code.number e
number (Message e) = of_message.number e

-- the symbol or the word that the layer below names, else 0
abbrev pub place : PortRefusal → ℕ
place Opening = 0
place Length = 0
place Full = 0
place (Code e) = of_code.place e
place (Message e) = of_message.place e

-- the block, 0 to 19, that a block refusal is about
abbrev pub block : PortRefusal → Option ℕ
block Opening = None
block Length = None
block Full = None
block (Code e) = None
block (Message e) = of_message.block_of e
