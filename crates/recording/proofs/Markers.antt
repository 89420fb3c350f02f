-- The levels of a marker, and where one stands.
use Rattle.std.proofs.Common.{◌≡◌, ℕ, ◌+◌, ◌<◌, ◌≤◌, false, List, length, get_or, sym, arith}
use Rattle.std.proofs.Math.ListN.{get_or-map}
use Rattle.std.specs.Int.{from_bool}
use Rattle.signal.specs.Signal.{Stands, marker}
use Rattle.signal.proofs.Whole.{length_marker}
use Rattle.recording.specs.declared.finding.TheConstants.{MARKER}

-- the constant of the code has the levels of a marker
pub level_of_marker : (k : ℕ) → from_bool (get_or MARKER k false) ≡ get_or marker k 0
unfolding marker
level_of_marker k = sym (get_or-map from_bool MARKER k false)

module _ (bits : List ℕ) (p : ℕ) where
  pub marker_fits : Stands marker bits p → p + 32 ≤ length bits
  marker_fits m = omega (arith, m.within, length_marker)

  pub marker_place : (k : ℕ) → Stands marker bits p → k < 32 → get_or bits (p + k) 0 ≡ get_or marker k 0
  marker_place k m h = m.places k (omega (arith, length_marker))

  pub marker_stands : p + 32 ≤ length bits → ((k : ℕ) → k < 32 → get_or bits (p + k) 0 ≡ get_or marker k 0) → Stands marker bits p
  marker_stands room each = let long = length_marker in record { within = omega arith; places = λ k h. each k (omega arith) }
