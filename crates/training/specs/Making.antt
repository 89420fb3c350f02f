-- A record and the numbers that it was made from.
use Rattle.std.specs.Prelude.{◌≡◌, ℕ, Bool}
use Rattle.training.specs.declared.records.Coefficients.{Coefficients}
use Rattle.training.specs.declared.records.Control.{Control}
use Rattle.training.specs.declared.records.Status.{Status}
use Rattle.training.specs.Numbers.{mark_number, update_number, state_number}

pub record CoefficientsFrom {X : Type 0} (number : X → ℕ) (c1 c0 cm1 : ℕ) (k : Coefficients X) : Type 0 where
  pub has_c1 : number k.c1 ≡ c1
  pub has_c0 : number k.c0 ≡ c0
  pub has_cm1 : number k.cm1 ≡ cm1

pub record ControlFrom (mark : ℕ) (preset initialise request lanes : Bool) (c1 c0 cm1 : ℕ) (c : Control) : Type 0 where
  pub has_mark : mark_number c.mark ≡ mark
  pub has_preset : c.preset ≡ preset
  pub has_initialise : c.initialise ≡ initialise
  pub has_request : c.fec_request ≡ request
  pub has_lanes : c.parallel_lanes ≡ lanes
  pub has_updates : CoefficientsFrom update_number c1 c0 cm1 c.updates

pub record StatusFrom (complete negotiating capable fixed : Bool) (c1 c0 cm1 : ℕ) (s : Status) : Type 0 where
  pub has_complete : s.complete ≡ complete
  pub has_negotiating : s.negotiating ≡ negotiating
  pub has_capable : s.fec_capable ≡ capable
  pub has_fixed : s.fixed ≡ fixed
  pub has_states : CoefficientsFrom state_number c1 c0 cm1 s.states
