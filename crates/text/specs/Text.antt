-- THE TEXT, whole: which bytes may stand in each column, which words a text says, and which fault decides.
use Rattle.std.specs.Prelude.{ℕ, zero, suc, ◌+◌, ◌-◌, ◌*◌, Bool, true, cond, ◌&&◌, ◌||◌, List, [], ◌∷◌, ◌++◌, map, take, drop, replicate, is_some, Some, None, Ok, Err, codes, fold, Option, Result, ◌==◌, nat_le, slice_index}
use Rattle.std.specs.Option.{unwrap_or}
use Rattle.words.specs.Types.{listed}
use Rattle.words.specs.Raw.{Raw, data_word, control_word, type_of}
use Rattle.words.specs.declared.refusal.WordRefusal.TheVariants.{Unlisted}
use Rattle.text.specs.declared.refusal.Fault.{Fault}
use Rattle.text.specs.declared.refusal.Fault.TheVariants.{Ended, At}
use Rattle.text.specs.declared.refusal.TextRefusal.{TextRefusal}
use Rattle.text.specs.declared.refusal.TextRefusal.TheVariants.{Names, Row, Rows, Word}

-- A line, column by column

-- 0 to 9 and a to f
abbrev pub hex_digit : ℕ → Option ℕ
hex_digit b = cond (nat_le 48 b && nat_le b 57) (Some (b - 48)) (cond (nat_le 97 b && nat_le b 102) (Some (b - 87)) None)

-- what may stand in a column: one certain byte, a kind letter, a hexadecimal digit
pub data Column : Type 0 where
  just : ℕ → Column
  letter : Column
  digit : Column

abbrev pub stands : Column → ℕ → Bool
stands (just x) b = b == x
stands letter b = b == 100 || b == 99
stands digit b = is_some (hex_digit b)

-- the names: head, a space, body, byte 10
abbrev pub names_line : List Column
names_line = map just (codes "head body" ++ (10 ∷ []))

-- a row: a kind letter, a space, sixteen digits, byte 10
abbrev pub row_line : List Column
row_line = letter ∷ just 32 ∷ (replicate 16 digit ++ (just 10 ∷ []))

-- the first byte that cannot stand in its column, or the end where the bytes end first; c is the column of the first byte
unfoldable pub fault : ℕ → List Column → List ℕ → Option Fault
fault c [] bs = None
fault c (k ∷ ks) [] = Some Ended
fault c (k ∷ ks) (b ∷ bs) = cond (stands k b) (fault (c + 1) ks bs) (Some (At c))

-- What a row says

-- digits as a number, the highest first
abbrev pub value : List ℕ → ℕ
value bs = fold (λ v b. v * 16 + unwrap_or (hex_digit b) 0) 0 bs

-- d is data, c is control; the body stands in columns 3 to 18
abbrev pub row_word : List ℕ → Raw
row_word bs = cond (slice_index bs 0 == 100) (data_word (value (take 16 (drop 2 bs)))) (control_word (value (take 16 (drop 2 bs))))

abbrev pub has_type : Raw → Bool
has_type (data_word b) = true
has_type (control_word b) = listed (type_of b)

-- row r, from a row's fault and word: 62 before 12
abbrev pub judged : ℕ → Option Fault → Raw → Result Raw TextRefusal
judged r (Some f) w = Err (Row r f)
judged r None w = cond (has_type w) (Ok w) (Err (Word r Unlisted))

abbrev pub row_answer : ℕ → List ℕ → Result Raw TextRefusal
row_answer r bs = judged r (fault 1 row_line bs) (row_word bs)

-- The whole text

abbrev pub Answer : Type 0
Answer = Result (List Raw) TextRefusal

-- one row, then the others
abbrev pub then : Result Raw TextRefusal → Answer → Answer
then (Ok w) (Ok ws) = Ok (w ∷ ws)
then (Ok w) (Err e) = Err e
then (Err e) a = Err e

-- r rows were read and n are due: 63 where the text ends there, and where it goes on though none is due
unfoldable pub rows : ℕ → ℕ → List ℕ → Answer
rows r zero [] = Ok []
rows r zero (b ∷ bs) = Err (Rows r)
rows r (suc n) [] = Err (Rows r)
rows r (suc n) (b ∷ bs) = then (row_answer (r + 1) (b ∷ bs)) (rows (r + 1) n (drop 19 (b ∷ bs)))

abbrev pub behind_names : Option Fault → Answer → Answer
behind_names (Some f) a = Err (Names f)
behind_names None a = a

-- what a text is answered with
abbrev pub answer : List ℕ → Answer
answer bs = behind_names (fault 1 names_line bs) (rows 0 80 (drop 10 bs))
