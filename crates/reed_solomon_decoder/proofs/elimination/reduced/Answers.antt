-- What is left to show of `reduced`.
use Rattle.std.proofs.Common.{◌≡◌, get_or, arith, rules}
use lib.Bits.{bit_xor}
use Rattle.field.specs.Field.{mul}
use Rattle.reed_solomon_decoder.proofs.Turns.{plus_all}
use Rattle.code.proofs.FromFn.{filled_from}
use Rattle.reed_solomon_decoder.proofs.elimination.reduced.Goals as goal

pub returns : goal.returns
returns c =
    record {
      sum = plus_all c.from_fn.result c.args.row.now c.args.by.now c.args.c 8 (omega arith) (omega arith) (omega arith)
          (λ k h. filled_from (λ i y. y ≡ bit_xor (get_or c.args.row.now i 0) (mul c.args.c (get_or c.args.by.now i 0))) (λ i y q e. search rules)
          c.from_fn.result 0 8 k 0 c.from_fn.ensures.items.each (omega arith) (omega arith));
      wide = search rules;
    }
