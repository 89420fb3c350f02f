-- For proofs: each part of a field fits its bits. The laws of `TwoBits` cite those of updates and states.
use Rattle.std.proofs.Common.{◌<◌, Bool, true, false, arith}
use Rattle.training.specs.declared.records.Mark.{Mark}
use Rattle.training.specs.declared.records.Mark.TheVariants.{Gfc16, Gfc32}
use Rattle.training.specs.declared.records.Update.{Update}
use Rattle.training.specs.declared.records.Update.TheVariants.{Hold, Increment, Decrement}
use Rattle.training.specs.declared.records.State.{State}
use Rattle.training.specs.declared.records.State.TheVariants.{Ready, Updated, Minimum, Maximum}
use Rattle.training.specs.Numbers.{mark_number, update_number, state_number}
use Rattle.std.specs.Int.{from_bool}

pub mark_below : (m : Mark) → mark_number m < 4
mark_below Gfc16 = omega arith
mark_below Gfc32 = omega arith

pub update_below : (u : Update) → update_number u < 4
update_below Hold = omega arith
update_below Increment = omega arith
update_below Decrement = omega arith

pub state_below : (s : State) → state_number s < 4
state_below Ready = omega arith
state_below Updated = omega arith
state_below Minimum = omega arith
state_below Maximum = omega arith

pub flag_below : (b : Bool) → from_bool b < 2
flag_below true = omega arith
flag_below false = omega arith
