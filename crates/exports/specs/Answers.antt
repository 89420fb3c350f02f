-- What the calls for other languages answer, as numbers: a refusal is 1,000 plus its number.
use Rattle.std.specs.Prelude.{◌≡◌, ℕ, ◌+◌, ◌<◌, min, List, length, Ok, Err, Result, slice_index, slice_index_or}
use Rattle.words.specs.Raw.{body}
use Rattle.words.specs.Words.{raw}
use Rattle.words.specs.declared.word.Word.{Word}
use Rattle.words.specs.declared.word.Word.TheVariants.{Data}
use Rattle.code.specs.Codes.{Model}
use Rattle.code.specs.Calls.{Formed, Mended}
use Rattle.code.specs.Layers.{scrambled}
use Rattle.code.specs.Refusals as of_code
use Rattle.code.specs.declared.refusal.CodeRefusal.{CodeRefusal}
use Rattle.reed_solomon_algebra.specs.Division.{reed_solomon_code}
use Rattle.port.specs.Calls.{Written, Reads}
use Rattle.port.specs.Limits.{zeros}
use Rattle.port.specs.Refusals as of_port
use Rattle.port.specs.declared.totals.Totals.{Totals}
use Rattle.port.specs.declared.refusal.PortRefusal.{PortRefusal}

abbrev pub refused : ℕ → ℕ
refused number = 1000 + number

-- the code of the two bare calls, and the pile that the port's calls go over
abbrev pub rs : Model
rs = reed_solomon_code 7

abbrev pub pile : Model
pile = scrambled rs

-- a call gave a number, or was refused; a refusal is `numbered` by its layer
abbrev pub number_of : {A E : Type 0} → (A → ℕ) → (E → ℕ) → Result A E → ℕ
number_of given numbered (Ok a) = given a
number_of given numbered (Err e) = refused (numbered e)

-- writing and forming give nothing
abbrev pub nothing : Unit {0} → ℕ
nothing u = 0

-- a distance, and the symbols that a reading mends, are at most 7
abbrev pub at_most_999 : ℕ → ℕ
at_most_999 d = min d 999

-- forming answered r
pub record FormAnswer (message line line' : List ℕ) (r : ℕ) : Type 0 where
  pub answer : Result Unit CodeRefusal
  pub formed : Formed rs message line line' answer
  pub is : r ≡ number_of nothing of_code.number answer

-- mending answered r
pub record MendAnswer (line message line' message' : List ℕ) (r : ℕ) : Type 0 where
  pub answer : Result ℕ CodeRefusal
  pub mended : Mended rs line message line' message' answer
  pub is : r ≡ number_of at_most_999 of_code.number answer

-- eighty data words of these bodies; bodies that are not there count as 0
pub record DataWords (bodies : List ℕ) (words : List Word) : Type 0 where
  pub count : length words ≡ 80
  pub each : (k : ℕ) → k < 80 → slice_index_or words k (Data 0) ≡ Data (slice_index bodies k)

-- writing answered r
pub record WriteAnswer (bodies line line' : List ℕ) (r : ℕ) : Type 0 where
  pub words : List Word
  pub given : DataWords bodies words
  pub answer : Result Unit PortRefusal
  pub written : Written pile words line line' answer
  pub is : r ≡ number_of nothing of_port.number answer

-- the place for bodies holds those of the first words, as many as there is room for
abbrev pub BodiesOf : List Word → List ℕ → Type 0
BodiesOf words bodies = (k : ℕ) → k < length bodies → k < 80 → slice_index bodies k ≡ body (raw (slice_index_or words k (Data 0)))

abbrev pub Filled : List Word → List ℕ → List ℕ → Result Unit PortRefusal → Type 0
Filled words bodies bodies' (Ok u) = BodiesOf words bodies'
Filled words bodies bodies' (Err e) = bodies' ≡ bodies

-- reading answered r
pub record ReadAnswer (line bodies line' bodies' : List ℕ) (r : ℕ) : Type 0 where
  pub words : List Word
  pub words' : List Word
  pub totals : Totals
  pub answer : Result Unit PortRefusal
  pub reads : Reads pile zeros line words line' words' totals answer
  pub filled : Filled words' bodies bodies' answer
  pub is : r ≡ number_of (λ u. at_most_999 totals.mended) of_port.number answer
