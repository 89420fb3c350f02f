-- The number, the place and the block of each refusal to read a message.
use Rattle.std.specs.Prelude.{ℕ, Some, None, Option}
use Rattle.blocks.specs.Refusals as of_block
use Rattle.messages.specs.declared.refusal.MessageRefusal.{MessageRefusal}
use Rattle.messages.specs.declared.refusal.MessageRefusal.TheVariants.{Symbol, Block}

abbrev pub number : MessageRefusal → ℕ
number (Symbol at) = 32
number (Block block refusal) = of_block.number refusal

-- the symbol, or the word in its group
abbrev pub place : MessageRefusal → ℕ
place (Symbol at) = at
place (Block block refusal) = of_block.place refusal

-- the block, 0 to 19, that a block refusal is about
abbrev pub block_of : MessageRefusal → Option ℕ
block_of (Symbol at) = None
block_of (Block block refusal) = Some block
