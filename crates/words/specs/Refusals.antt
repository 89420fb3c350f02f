-- The number and the place of each refusal of the word layer.
use Rattle.std.specs.Prelude.{ℕ}
use Rattle.words.specs.declared.refusal.WordRefusal.{WordRefusal}
use Rattle.words.specs.declared.refusal.WordRefusal.TheVariants.{Header, Unlisted}

abbrev pub number : WordRefusal → ℕ
number Header = 11
number Unlisted = 12

abbrev pub place : WordRefusal → ℕ
place Header = 0
place Unlisted = 0
