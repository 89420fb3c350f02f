-- The three levels were compared as their numbers are.
use Rattle.std.proofs.Common.{◌≡◌, ℕ, ◌-◌, get_or, not, sym, ap, ◌∙◌}
use Rattle.std.specs.Bool.{beq}
use Rattle.std.specs.Int.{from_bool}
use Rattle.signal.specs.Signal.{turned}
use Rattle.signal.specs.Tape.{tui}
use Rattle.signal.proofs.Levels.{differing, tested}
use Rattle.signal.proofs.Seen.{when_weaker}
use Rattle.signal.proofs.tape.Recording.sum_at.Goals as goal

pub returns : goal.returns
returns c =
    let bits = tui c.args.self.now in
    let a = c.level_of.result in
    let b = c.level_of-2.result in
    let d = c.level_of-3.result in
    let sum : from_bool (not (beq b d)) ≡ turned (get_or bits (c.args.at - 9) 0) (get_or bits (c.args.at - 11) 0) =
    differing b d ∙ ap (λ (x : ℕ). turned x (from_bool d)) c.level_of-2.ensures ∙ ap (turned (get_or bits (c.args.at - 9) 0)) c.level_of-3.ensures in
    when_weaker (beq a (not (beq b d))) (λ e. sym c.level_of.ensures ∙ e ∙ sum) (λ no e. no (c.level_of.ensures ∙ e ∙ sym sum)) (tested a (not (beq b d)))
