use Rattle.std.proofs.Common.{◌≡◌, length, ◌∙◌, arith}
use Rattle.std.proofs.lemmas.List.{length-map}
use Rattle.words.specs.Words.{raw, raws}
use Rattle.messages.proofs.Promised.{by_the_rules_all, written}
use Rattle.messages.proofs.writing.to_message.Goals as goal

pub returns : goal.returns
returns c =
    let ws = c.args.words.now in
    let xs = c.write.new.out in
    let e = c.write.ensures in
    let n : length (raws ws) ≡ 80 = length-map ws raw ∙ omega arith in
    record {
      rules = by_the_rules_all (raws ws) xs n e.valid (omega arith) e.small e.value;
      value = written (raws ws) xs (omega arith) e.small e.value;
      valid = e.valid;
    }
