-- What is left to show of `mend`.
use Rattle.std.proofs.Common.{◌≡◌, length, subst, lit≤, rules}
use Rattle.symbols.specs.Symbols.{Symbols}
use Rattle.reed_solomon.proofs.Mending.{mended}
use Rattle.reed_solomon.proofs.codec.ReedSolomonCode.mend.Goals as goal

pub returns : goal.returns
returns c =
    let line_there : c.in_ok-line.field-0.now ≡ c.args.line.now = search rules in
    let message_there : c.in_ok-message.field-0.now ≡ c.args.message.now = search rules in
    let long : length c.args.message.now ≡ 514 = search rules in
    let line_long : length c.args.line.now ≡ 528 = search rules in
    mended 7 (lit≤ tt) c.args.line.now c.args.message.now c.read_word.new.line c.read_word.new.message c.read_word.result c.ok_or-3.result
    (record { message_long = long; line_long = line_long })
    (subst Symbols line_there c.in_ok-check_symbols.ensures)
    (rw (← line_there, ← message_there) c.read_word.ensures)
    c.ok_or-3.ensures.value
