-- Each word is that of the body at its index.
use Rattle.std.proofs.Common.{◌≡◌, ℕ, arith, rules, tests, slice_index}
use Rattle.words.specs.declared.word.Word.{Word}
use Rattle.words.specs.declared.word.Word.TheVariants.{Data}
use Rattle.code.proofs.FromFn.{filled_from}
use Rattle.exports.proofs.data_words.Goals as goal

pub returns : goal.returns
returns c = record {
  count = c.from_fn.ensures.items.long;
  each = λ k h. filled_from (λ (j : ℕ) (y : Word). y ≡ Data (slice_index c.args.bodies.now j)) (λ j y q w. search (rules, tests)) c.from_fn.result 0 80 k (Data 0) c.from_fn.ensures.items.each (omega arith) (omega arith);
}
