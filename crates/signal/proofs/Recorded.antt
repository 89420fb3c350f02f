-- A recording is not long.
use Rattle.std.proofs.Common.{◌≤◌, length, arith}
use Rattle.signal.specs.declared.tape.Recording.{Recording}
use Rattle.signal.specs.Tape.{tui, bytes_of}
use Rattle.signal.proofs.Bits.{length_bits}

pub tui_max : (r : Recording) → length (tui r) ≤ 524288
tui_max r = omega (arith, r.sized, length_bits (bytes_of r))
