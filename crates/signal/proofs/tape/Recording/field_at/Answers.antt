-- One more bit at each turn, until the field is whole.
use Rattle.std.proofs.Common.{pow-suc, add-one, arith}
use Rattle.std.specs.Int.{from_bool}
use Rattle.signal.specs.Signal.{cells, highest_first}
use Rattle.signal.specs.Tape.{tui}
use Rattle.signal.proofs.Recorded.{tui_max}
use Rattle.signal.proofs.Levels.{level_small}
use Rattle.signal.proofs.Carried.{carried_more}
use Rattle.signal.proofs.tape.Recording.field_at.Goals as goal

pub loop-k-init : goal.loop-k-init
unfolding cells highest_first
loop-k-init c =
    let long = tui_max c.args.self.now in
    (omega arith, record { within = omega arith; places = λ i h. absurd (omega arith) })

pub loop-k-preserved : goal.loop-k-preserved
loop-k-preserved c =
    let k = c.loop-k.k in
    let cell = c.in_ok-bit.ensures in
    let small = level_small c.in_ok-bit.bit in
    let inv = c.loop-k.invariant.0 in
    let p = pow-suc 2 k in rw c.from.ensures (
      rw add-one (omega arith),
      carried_more (tui c.args.self.now) c.args.place k c.loop-k.field (from_bool c.in_ok-bit.bit) (omega arith) small c.loop-k.invariant.1 cell,
    )
