-- A signal is its front and its back, and a front its marker and its cells.
use Rattle.std.proofs.Common.{◌≡◌, ℕ, ◌+◌, List, [], ◌∷◌, ◌++◌, length, ◌∙◌, arith, length-append}
use Rattle.training.specs.declared.records.Control.{Control}
use Rattle.training.specs.declared.records.Status.{Status}
use Rattle.training.specs.Fields.{control_number, status_number}
use Rattle.signal.specs.Signal.{Stands, marker, cells, field, front, pattern, back, signal}
use Rattle.signal.proofs.Standing.{stands_join, stands_left, stands_right}
use Rattle.signal.proofs.Cells.{length_cells}
use Rattle.signal.proofs.FieldBits.{length_highest}
use Rattle.signal.proofs.Pattern.{length_pattern}
use Rattle.signal.proofs.Whole.{length_marker}

pub length_fields : (control status : ℕ) → length (field control ++ field status) ≡ 32
length_fields control status = length-append (field control) (field status) ∙ omega (arith, length_highest 16 control, length_highest 16 status)

pub length_front : (control status : ℕ) → length (front control status) ≡ 288
unfolding front
length_front control status =
    length-append marker (cells 0 (field control ++ field status)) ∙ omega (arith, length_marker, length_cells 0 (field control ++ field status), length_fields control status)

pub length_back : (seed : ℕ) → length (back seed) ≡ 4096
unfolding back
length_back seed = length-append (pattern seed 4094) (0 ∷ 0 ∷ []) ∙ omega (arith, length_pattern seed 4094)

pub length_signal : (c : Control) (s : Status) (seed : ℕ) → length (signal c s seed) ≡ 4384
unfolding signal
length_signal c s seed =
    length-append (front (control_number c) (status_number s)) (back seed) ∙ omega (arith, length_front (control_number c) (status_number s), length_back seed)

module _ (bits : List ℕ) (p : ℕ) where
  pub signal_seen : (c : Control) (s : Status) (seed : ℕ) → Stands (front (control_number c) (status_number s)) bits p → Stands (back seed) bits (p + 288) → Stands (signal c s seed) bits p
  unfolding signal
  signal_seen c s seed = stands_join bits (front (control_number c) (status_number s)) (back seed) p (p + 288) (omega (arith, length_front (control_number c) (status_number s)))

  pub signal_front : (c : Control) (s : Status) (seed : ℕ) → Stands (signal c s seed) bits p → Stands (front (control_number c) (status_number s)) bits p
  unfolding signal
  signal_front c s seed = stands_left bits (front (control_number c) (status_number s)) (back seed) p

  pub signal_back : (c : Control) (s : Status) (seed : ℕ) → Stands (signal c s seed) bits p → Stands (back seed) bits (p + 288)
  unfolding signal
  signal_back c s seed = stands_right bits (front (control_number c) (status_number s)) (back seed) p (p + 288) (omega (arith, length_front (control_number c) (status_number s)))

  pub front_marker : (control status : ℕ) → Stands (front control status) bits p → Stands marker bits p
  unfolding front
  front_marker control status = stands_left bits marker (cells 0 (field control ++ field status)) p

  pub front_cells : (control status : ℕ) → Stands (front control status) bits p → Stands (cells 0 (field control ++ field status)) bits (p + 32)
  unfolding front
  front_cells control status = stands_right bits marker (cells 0 (field control ++ field status)) p (p + 32) (omega (arith, length_marker))
