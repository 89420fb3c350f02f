-- The number, the row and the column of each refusal of a text.
use Rattle.std.specs.Prelude.{ℕ}
use Rattle.words.specs.Refusals as of_word
use Rattle.text.specs.declared.refusal.Fault.{Fault}
use Rattle.text.specs.declared.refusal.Fault.TheVariants.{Ended, At}
use Rattle.text.specs.declared.refusal.TextRefusal.{TextRefusal}
use Rattle.text.specs.declared.refusal.TextRefusal.TheVariants.{Names, Row, Rows, Word}

abbrev pub number : TextRefusal → ℕ
number (Names f) = 61
number (Row row f) = 62
number (Rows row) = 63
number (Word row refusal) = of_word.number refusal

-- from 1 behind the names, whose row is 0; how many rows were read for 63
abbrev pub row : TextRefusal → ℕ
row (Names f) = 0
row (Row r f) = r
row (Rows r) = r
row (Word r refusal) = r

-- the first byte that cannot stand there, from 1; 0 where the text ends first
abbrev pub fault_column : Fault → ℕ
fault_column Ended = 0
fault_column (At c) = c

-- that of the fault; 0 for 63; 17, where the type stands, for a word
abbrev pub column : TextRefusal → ℕ
column (Names f) = fault_column f
column (Row r f) = fault_column f
column (Rows r) = 0
column (Word r refusal) = 17
