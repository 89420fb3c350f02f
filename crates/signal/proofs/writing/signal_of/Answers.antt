-- The front and the back make the signal.
use Rattle.std.proofs.Common.{ℕ, ◌++◌, List, length, ap, ◌∙◌, arith, length-append}
use Rattle.training.specs.Fields.{control_number}
use Rattle.signal.specs.Signal.{front, back, signal}
use Rattle.signal.proofs.SignalParts.{length_front, length_back}
use Rattle.signal.proofs.writing.signal_of.Goals as goal

pub returns : goal.returns
unfolding signal
returns c =
    c.line.ensures ∙ c.send_back.ensures ∙ ap (λ (l : List ℕ). l ++ back c.args.training.seed) c.send_front.ensures
    ∙ ap (λ (n : ℕ). front n c.from-2.result ++ back c.args.training.seed) c.from.ensures
    ∙ ap (λ (n : ℕ). front (control_number c.args.training.control) n ++ back c.args.training.seed) c.from-2.ensures

pub line-requires : goal.line-requires
line-requires c =
    omega (
      arith,
      ap length c.send_back.ensures,
      length-append c.send_front.new.self (back c.args.training.seed),
      length_back c.args.training.seed,
      ap length c.send_front.ensures,
      length_front c.from.result c.from-2.result,
    )
