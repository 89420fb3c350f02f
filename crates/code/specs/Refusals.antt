-- The number and the place of each refusal of a code.
use Rattle.std.specs.Prelude.{ℕ}
use Rattle.code.specs.declared.refusal.CodeRefusal.{CodeRefusal}
use Rattle.code.specs.declared.refusal.CodeRefusal.TheVariants.{Length, Symbol, NoCodeWord}

abbrev pub number : CodeRefusal → ℕ
number Length = 31
number (Symbol place) = 32
number NoCodeWord = 33

-- the place in the list that was read; 0 where the refusal has none
abbrev pub place : CodeRefusal → ℕ
place Length = 0
place (Symbol p) = p
place NoCodeWord = 0
