-- What each layer makes of the code below it.
use Rattle.std.specs.Prelude.{◌≡◌, ℕ, ◌+◌, ◌*◌, ◌/◌, ◌%◌, ◌^◌, ◌<◌, ◌≤◌, List, map, length, pos, Ok, Err, Result, slice_index}
use Rattle.std.specs.List.{range_with_len}
use Rattle.symbols.specs.Symbols.{Symbols}
use Rattle.code.specs.Distance.{distance, plus}
use Rattle.code.specs.Codes.{Model, CodeWord, longest_line}
use Rattle.code.specs.Calls.{Mended}
use Rattle.code.specs.Sequence.{key, sequence}
use Rattle.code.specs.declared.refusal.CodeRefusal.{CodeRefusal}
use Rattle.code.specs.declared.refusal.CodeRefusal.TheVariants.{Length, NoCodeWord}

-- correction off: the same lines, of which none is mended
abbrev pub off : Model → Model
off m = record { n = m.n; t = 0; encode = m.encode }

-- correction off accepts exactly the code words: what it accepts is one, left as it is, with no symbol wrong; what it says 33 of is none
pub record Exact (m : Model) : Type 0 where
  pub accepts : (line message line' message' : List ℕ) (d : ℕ) → Mended (off m) line message line' message' (Ok d) → CodeWord m line × (line' ≡ line) × (d ≡ 0)
  pub refuses : (line message line' message' : List ℕ) → Mended (off m) line message line' message' (Err NoCodeWord) → CodeWord m line → ⊥

-- the key, as long as a line
unfoldable pub keys : ℕ → List ℕ
keys n = map key (range_with_len 0 n)

-- a line with the key added, symbol by symbol
abbrev pub with_key : List ℕ → List ℕ
with_key line = plus line (keys (length line))

-- scrambling: the key is added to each code word
abbrev pub scrambled : Model → Model
scrambled m = record { n = m.n; t = m.t; encode = λ x. with_key (m.encode x) }

-- what adding the key does to a line
pub record KeyLaws : Type 0 where
  -- sequence bit 10 s + r is added modulo 2 to bit r of symbol s
  pub bits : (x : List ℕ) (s r : ℕ) → s < length x → r < 10 → slice_index (with_key x) s / 2 ^ r % 2 ≡ (slice_index x s / 2 ^ r + sequence (pos (10 * s + r))) % 2
  pub keeps_symbols : (x : List ℕ) → Symbols x → Symbols (with_key x)
  pub keeps_distance : (x y : List ℕ) → length x ≡ length y → distance (with_key x) (with_key y) ≡ distance x y
  pub twice_nothing : (x : List ℕ) → with_key (with_key x) ≡ x

-- a list was scrambled, or refused with 31 since no line is so long
abbrev pub ScrambledLine : List ℕ → List ℕ → Result Unit CodeRefusal → Type 0
ScrambledLine line line' (Ok u) = (length line ≤ longest_line) × (line' ≡ with_key line)
ScrambledLine line line' (Err e) = (e ≡ Length) × (longest_line < length line) × (line' ≡ line)
