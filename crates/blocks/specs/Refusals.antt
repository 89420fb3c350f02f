-- The number and the place of each refusal of the block layer.
use Rattle.std.specs.Prelude.{ℕ}
use Rattle.blocks.specs.declared.refusal.BlockRefusal.{BlockRefusal}
use Rattle.blocks.specs.declared.refusal.BlockRefusal.TheVariants.{NoControl, NoType, Unlisted}

abbrev pub number : BlockRefusal → ℕ
number NoControl = 21
number (NoType word) = 22
number (Unlisted word) = 23

-- the word in its group, 0 to 3
abbrev pub place : BlockRefusal → ℕ
place NoControl = 0
place (NoType word) = word
place (Unlisted word) = word
