-- What is left to show of `form`.
use Rattle.std.proofs.Common.{◌≡◌, length, sym, ap, ◌∙◌, subst, lit≤, rules}
use Rattle.symbols.specs.Symbols.{Symbols}
use Rattle.reed_solomon_algebra.specs.CodeWords.{WordOf}
use Rattle.reed_solomon_algebra.specs.Division.{encode}
use Rattle.reed_solomon_algebra.proofs.Encodes.{word_of}
use Rattle.reed_solomon.proofs.codec.ReedSolomonCode.form.Goals as goal

pub returns : goal.returns
returns c =
    let m = c.args.message.now in
    let same : c.in_ok-message.message.now ≡ m = search rules in
    let long : length m ≡ 514 = search rules in
    let line_long : length c.args.line.now ≡ 528 = search rules in
    let symbols = subst Symbols same c.in_ok-check_symbols.ensures in
    let becomes = c.write_word.ensures ∙ ap (encode 7) same in
    record {
      formed = record { sized = record { message_long = long; line_long = line_long }; symbols = symbols; becomes = becomes };
      word = subst (WordOf 7 m) (sym becomes) (word_of 7 (lit≤ tt) m (record { long = long; symbols = symbols }));
    }
