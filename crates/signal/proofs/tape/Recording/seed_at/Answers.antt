-- One more bit below those already seen.
use Rattle.std.proofs.Common.{◌≡◌, ℕ, suc, ◌+◌, ◌-◌, ◌*◌, sym, subst, pow-suc, arith}
use Rattle.std.specs.Int.{from_bool}
use Rattle.signal.specs.Signal.{least_first, Stands}
use Rattle.signal.specs.Tape.{tui}
use Rattle.signal.proofs.Recorded.{tui_max}
use Rattle.signal.proofs.Levels.{level_small}
use Rattle.signal.proofs.Patterned.{least_more}
use Rattle.signal.proofs.tape.Recording.seed_at.Goals as goal

pub loop-at-init : goal.loop-at-init
unfolding least_first
loop-at-init c =
    let long = tui_max c.args.self.now in
    let none : c.args.place + 11 - (c.args.place + 11) ≡ 0 = omega arith in
    rw none (omega arith, omega arith, record { within = omega arith; places = λ i h. absurd (omega arith) })

pub loop-at-preserved : goal.loop-at-preserved
loop-at-preserved c =
    let bits = tui c.args.self.now in
    let at = c.loop-at.at in
    let seen = c.args.place + 11 - at in
    let long = tui_max c.args.self.now in
    let x = c.loop-at.seed * 2 + from_bool c.level_at.result in
    let n : c.args.place + 11 - (at - 1) ≡ suc seen = omega arith in
    let next : at ≡ at - 1 + 1 = omega arith in
    let double = pow-suc 2 seen in
    let small = level_small c.level_at.result in
    let inv = c.loop-at.invariant.1 in
    let more = least_more bits seen c.loop-at.seed (from_bool c.level_at.result) (at - 1) small
    (subst (Stands (least_first seen c.loop-at.seed) bits) next c.loop-at.invariant.2) (sym c.level_at.ensures) (omega arith) in
    rw c.from.ensures (omega arith, rw n (omega arith), subst (λ (k : ℕ). Stands (least_first k x) bits (at - 1)) (sym n) more)
