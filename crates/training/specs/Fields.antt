-- The numbers that the control and the status field of a signal hold: sixteen bits each, by the record's parts.
use Rattle.std.specs.Prelude.{ℕ, ◌+◌, ◌*◌, ◌^◌}
use Rattle.std.specs.Int.{from_bool}
use Rattle.training.specs.declared.records.Control.{Control}
use Rattle.training.specs.declared.records.Status.{Status}
use Rattle.training.specs.Numbers.{mark_number, update_number, state_number, coefficients_number, Named}

-- bits 15 and 14 the mark, then a bit for each flag, 1 where it is true, 9 to 6 zero, then two bits for each update
abbrev pub control_number : Control → ℕ
control_number c =
    2 ^ 14 * mark_number c.mark + 2 ^ 13 * from_bool c.preset + 2 ^ 12 * from_bool c.initialise
    + 2 ^ 11 * from_bool c.fec_request + 2 ^ 10 * from_bool c.parallel_lanes
    + coefficients_number update_number c.updates

-- bits 15 to 12 the flags, 1 where one is true, 11 to 6 zero, then two bits for each state
abbrev pub status_number : Status → ℕ
status_number s =
    2 ^ 15 * from_bool s.complete + 2 ^ 14 * from_bool s.negotiating + 2 ^ 13 * from_bool s.fec_capable + 2 ^ 12 * from_bool s.fixed
    + coefficients_number state_number s.states

-- some record has this number
abbrev pub IsControl : ℕ → Type 0
IsControl n = Named control_number n

abbrev pub IsStatus : ℕ → Type 0
IsStatus n = Named status_number n
