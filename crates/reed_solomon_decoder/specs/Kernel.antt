-- Rows that annihilate the first windows of the syndromes, each with a coefficient that those before it lack.
use Rattle.std.specs.Prelude.{◌≡◌, ℕ, ◌<◌, ◌≢◌, List, [], length, drop, slice_index, slice_index_or}
use Rattle.field.specs.Field.{add, mul}
use Rattle.reed_solomon_algebra.specs.Polynomials.{Elements}
use Rattle.reed_solomon_decoder.specs.Errors.{dot, Null}

-- r = v + c w
abbrev pub Plus : List ℕ → List ℕ → ℕ → List ℕ → Type 0
Plus r v c w = (k : ℕ) → slice_index r k ≡ add (slice_index v k) (mul c (slice_index w k))

-- r is v with a multiple of w, so that the window has nothing left in it
pub record Reduced (window r v w : List ℕ) : Type 0 where
  pub by : ℕ
  pub wide : length r ≡ length v
  pub plus : Plus r v by w
  pub gone : dot r window ≡ 0

-- u annihilates the windows of s that begin below j
abbrev pub Kills : List ℕ → List ℕ → ℕ → Type 0
Kills s u j = (i : ℕ) → i < j → dot u (drop i s) ≡ 0

-- a place where row i has something and no row before it has
abbrev pub Fresh : List (List ℕ) → ℕ → Type 0
Fresh rows i = (d : ℕ) × (slice_index (slice_index_or rows i []) d ≢ 0) × ((h : ℕ) → h < i → slice_index (slice_index_or rows h []) d ≡ 0)

-- the first n rows, w wide, annihilate the first j windows, and none is a sum of those before it
pub record Kernel (w : ℕ) (s : List ℕ) (j n : ℕ) (rows : List (List ℕ)) : Type 0 where
  pub wide : (i : ℕ) → i < n → length (slice_index_or rows i []) ≡ w
  pub elements : (i : ℕ) → i < n → Elements (slice_index_or rows i [])
  pub kills : (i : ℕ) → i < n → Kills s (slice_index_or rows i []) j
  pub fresh : (i : ℕ) → i < n → Fresh rows i

-- u is w wide, not zero, and annihilates the first j windows
pub record Locator (w : ℕ) (s : List ℕ) (j : ℕ) (u : List ℕ) : Type 0 where
  pub wide : length u ≡ w
  pub elements : Elements u
  pub kills : Kills s u j
  pub nonzero : Null u → ⊥
