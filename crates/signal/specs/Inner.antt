-- Helper definitions, which only contracts of private functions cite.
use Rattle.std.specs.Prelude.{◌≡◌, ℕ, ◌+◌, ◌-◌, ◌*◌, ◌<◌, List, slice_index}
use Rattle.signal.specs.Signal.{Stands, turned, cell, cells, field, pattern, IsSeed}

-- the level before a place
abbrev pub level_before : List ℕ → ℕ → ℕ
level_before bits p = slice_index bits (p - 1)

-- a cell that carries the bit stands there
abbrev pub CellAt : List ℕ → ℕ → ℕ → Type 0
CellAt bits p bit = Stands (cell (level_before bits p) bit) bits p

-- one of the 16 cells from there on carries no bit
abbrev pub FieldBroken : List ℕ → ℕ → Type 0
FieldBroken bits p = (k : ℕ) × (k < 16) × ((bit : ℕ) → CellAt bits (p + 8 * k) bit → ⊥)

-- the cells of a field stand there
abbrev pub FieldAt : List ℕ → ℕ → ℕ → Type 0
FieldAt bits p x = (x < 65536) × Stands (cells (level_before bits p) (field x)) bits p

-- the level there is the sum of those nine and eleven TUI before it
abbrev pub SumAt : List ℕ → ℕ → Type 0
SumAt bits at = slice_index bits at ≡ turned (slice_index bits (at - 9)) (slice_index bits (at - 11))

-- the pattern of a seed stands there
abbrev pub PatternAt : List ℕ → ℕ → ℕ → Type 0
PatternAt bits p seed = IsSeed seed × Stands (pattern seed 4094) bits p
