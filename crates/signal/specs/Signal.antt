-- A training signal, bit for bit: what a control record, a status record and a seed are on the line.
-- One TUI is one bit time, and a signal is 4,384 of them.
use Rattle.std.specs.Prelude.{◌≡◌, ℕ, zero, suc, ◌+◌, ◌-◌, ◌/◌, ◌%◌, ◌^◌, ◌<◌, ◌≤◌, cond, List, [], ◌∷◌, ◌++◌, length, replicate, nat_lt, slice_index}
use Rattle.training.specs.declared.records.Control.{Control}
use Rattle.training.specs.declared.records.Status.{Status}
use Rattle.training.specs.Fields.{control_number, status_number}

-- How TUI are packed: the least bit of a byte is its first TUI

-- the lowest n bits of a number, the least first
unfoldable pub least_first : ℕ → ℕ → List ℕ
least_first zero x = []
least_first (suc n) x = x % 2 ∷ least_first n (x / 2)

-- the TUI of a list of bytes
unfoldable pub bits_of : List ℕ → List ℕ
bits_of [] = []
bits_of (b ∷ bs) = least_first 8 b ++ bits_of bs

-- xs stands in the bits, from place p on
pub record Stands (xs bits : List ℕ) (p : ℕ) : Type 0 where
  pub within : p + length xs ≤ length bits
  pub places : (i : ℕ) → i < length xs → slice_index bits (p + i) ≡ slice_index xs i

-- How a signal is sent: a marker, the fields in cells, the pattern, two zeros

abbrev pub ones : ℕ → List ℕ
ones n = replicate n 1

abbrev pub zeros : ℕ → List ℕ
zeros n = replicate n 0

unfoldable pub marker : List ℕ
marker = ones 16 ++ zeros 16

-- a level after a turn of 1 is the other level, after a turn of 0 the same
abbrev pub turned : ℕ → ℕ → ℕ
turned level by = (level + by) % 2

-- the last TUI of a cell
abbrev pub cell_end : ℕ → ℕ → ℕ
cell_end before bit = turned (turned before 1) bit

-- a cell differs at its start from the TUI before it, and its two halves differ exactly for a 1
unfoldable pub cell : ℕ → ℕ → List ℕ
cell before bit = replicate 4 (turned before 1) ++ replicate 4 (cell_end before bit)

unfoldable pub cells : ℕ → List ℕ → List ℕ
cells before [] = []
cells before (bit ∷ bits) = cell before bit ++ cells (cell_end before bit) bits

-- the lowest n bits of a number, from bit n − 1 down
unfoldable pub highest_first : ℕ → ℕ → List ℕ
highest_first zero x = []
highest_first (suc n) x = x / 2 ^ n % 2 ∷ highest_first n x

abbrev pub field : ℕ → List ℕ
field x = highest_first 16 x

-- the marker and both fields: they follow the marker's last zero
unfoldable pub front : ℕ → ℕ → List ℕ
front control status = marker ++ cells 0 (field control ++ field status)

-- bit k of the pattern after the k bits before it
abbrev pub pattern_next : ℕ → List ℕ → ℕ → ℕ
pattern_next seed before k = cond (nat_lt k 11) (seed / 2 ^ k % 2) ((slice_index before (k - 9) + slice_index before (k - 11)) % 2)

-- the first n bits of the pattern
unfoldable pub pattern : ℕ → ℕ → List ℕ
pattern seed zero = []
pattern seed (suc k) = let before = pattern seed k in before ++ pattern_next seed before k ∷ []

abbrev pub IsSeed : ℕ → Type 0
IsSeed seed = (1 ≤ seed) × (seed ≤ 2047)

unfoldable pub back : ℕ → List ℕ
back seed = pattern seed 4094 ++ zeros 2

unfoldable pub signal : Control → Status → ℕ → List ℕ
signal c s seed = front (control_number c) (status_number s) ++ back seed

abbrev pub signal_length : ℕ
signal_length = 4384

-- the bytes of a signal
abbrev pub signal_bytes : ℕ
signal_bytes = 548

-- the most bytes of a recording
abbrev pub recording_max : ℕ
recording_max = 65536
