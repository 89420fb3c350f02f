-- The scrambling sequence: its recurrence, the bits that obey it, and the key that they make.
use Rattle.std.specs.Prelude.{◌≡◌, ℕ, zero, suc, ◌+◌, ◌*◌, ◌/◌, ◌%◌, ◌^◌, ◌<◌, List, ◌∷◌, map, ℤ, pos, negsuc, ◌-ℤ◌, slice_index}
use Rattle.std.specs.List.{range_with_len}
use Rattle.symbols.specs.Symbols.{Symbol}

-- THE RECURRENCE. Bits −1 to −58 are S0 to S57, where Si is 1 for odd i (`negsuc i` is −1 − i);
-- each later bit is the sum modulo 2 of the bits 39 and 58 places before it.
pub record Recurrence (bit : ℤ → ℕ) : Type 0 where
  pub before : (i : ℕ) → i < 58 → bit (negsuc i) ≡ i % 2
  pub later : (k : ℕ) → bit (pos k) ≡ (bit (pos k -ℤ pos 39) + bit (pos k -ℤ pos 58)) % 2

-- all bits before bit k, the latest first, so that place 38 holds bit k − 39 and place 57 bit k − 58
unfoldable pub history : ℕ → List ℕ
history zero = map (λ i. i % 2) (range_with_len 0 58)
history (suc k) = (slice_index (history k) 38 + slice_index (history k) 57) % 2 ∷ history k

-- the bits by their numbers
abbrev pub sequence : ℤ → ℕ
sequence (pos k) = slice_index (history (suc k)) 0
sequence (negsuc i) = i % 2

-- the number whose bits are w bits of the sequence, from bit k on, the lowest first
unfoldable pub gathered : ℕ → ℕ → ℕ
gathered zero k = 0
gathered (suc w) k = sequence (pos k) + 2 * gathered w (k + 1)

-- symbol s of the key: its bit r is sequence bit 10 s + r
abbrev pub key : ℕ → ℕ
key s = gathered 10 (10 * s)

-- what holds of the sequence and of the key
pub record SequenceLaws : Type 0 where
  -- the sequence obeys the recurrence
  pub obeys : Recurrence sequence
  -- and whatever obeys it has the same bits
  pub alone : (bit : ℤ → ℕ) → Recurrence bit → (k : ℕ) → bit (pos k) ≡ sequence (pos k)
  -- the key is symbols
  pub symbols : (s : ℕ) → Symbol (key s)
  -- and bit r of its symbol s is sequence bit 10 s + r
  pub bits : (s r : ℕ) → r < 10 → key s / 2 ^ r % 2 ≡ sequence (pos (10 * s + r))
