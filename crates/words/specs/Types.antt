-- The types of control words, and the high nibble of a type as a function of the low one.
use Rattle.std.specs.Prelude.{◌≡◌, ℕ, ◌+◌, ◌*◌, ◌%◌, ◌<◌, Bool, true, false, ◌||◌, List, [], ◌∷◌, ◌==◌, slice_index}

abbrev pub types : List ℕ
types = 0x1E ∷ 0x2D ∷ 0x33 ∷ 0x4B ∷ 0x55 ∷ 0x66 ∷ 0x78 ∷ 0x87 ∷ 0x99 ∷ 0xAA ∷ 0xB4 ∷ 0xCC ∷ 0xD2 ∷ 0xE1 ∷ 0xFF ∷ []

abbrev pub any_of : List ℕ → ℕ → Bool
any_of [] x = false
any_of (y ∷ ys) x = x == y || any_of ys x

abbrev pub listed : ℕ → Bool
listed t = any_of types t

-- the low nibble           0    1     2     3    4     5    6    7    8    9    A     B    C     D    E    F
abbrev pub highs : List ℕ
highs = 0 ∷ 0xE ∷ 0xD ∷ 3 ∷ 0xB ∷ 5 ∷ 6 ∷ 8 ∷ 7 ∷ 9 ∷ 0xA ∷ 4 ∷ 0xC ∷ 2 ∷ 1 ∷ 0xF ∷ []

abbrev pub high : ℕ → ℕ
high low = slice_index highs low

-- the low nibble of a listed type tells the type, and is never 0
pub record LowNibbleTellsType : Type 0 where
  pub restores : (t : ℕ) → t < 256 → listed t ≡ true → t % 16 + 16 * high (t % 16) ≡ t
  pub nonzero : (t : ℕ) → t < 256 → listed t ≡ true → 0 < t % 16
  pub different : (t u : ℕ) → t < 256 → u < 256 → listed t ≡ true → listed u ≡ true → t % 16 ≡ u % 16 → t ≡ u
