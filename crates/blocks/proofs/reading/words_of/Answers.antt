use Rattle.std.proofs.Common.{ap, ◌∙◌, take, drop, arith, length-set}
use Rattle.std.proofs.lemmas.Result.{err_from_is_err_and}
use Rattle.blocks.specs.Packed.{packed}
use Rattle.blocks.specs.Reading.{read_block}
use Rattle.blocks.proofs.Readings.{lowest, one_more, refused, none_marked, finished}
use Rattle.blocks.proofs.reading.words_of.Goals as goal

pub loop-j-init : goal.loop-j-init
loop-j-init c =
    record {
      long = omega arith;
      holds = ap read_block (lowest c.args.block.now.limbs (omega arith)) ∙ c.new-reader.ensures (packed 64 (take 4 (drop 1 c.args.block.now.limbs)));
    }

pub returns-in_err-words : goal.returns-in_err-words
returns-in_err-words c =
    let p = err_from_is_err_and c.from_residual.result c.from_residual.ensures.1 in
    rw (p.1, p.2) (refused c.loop-j.words (take 4 (drop 1 c.args.block.now.limbs)) c.loop-j.j c.loop-j.reader (read_block (packed 64 c.args.block.now.limbs)) c.loop-j.invariant.holds c.in_err-words.field-0.0 c.take.new.self (omega arith) (omega arith) c.in_err-words.ensures)

pub loop-j-preserved : goal.loop-j-preserved
loop-j-preserved c =
    let inv = c.loop-j.invariant in
    record {
      long = rw length-set inv.long;
      holds = one_more c.loop-j.words (take 4 (drop 1 c.args.block.now.limbs)) c.loop-j.j c.loop-j.reader (read_block (packed 64 c.args.block.now.limbs)) inv.holds c.in_ok-words.field-0 c.take.new.self (omega arith) (omega arith) (omega arith) c.in_ok-words.ensures;
    }

pub returns-then-reader : goal.returns-then-reader
returns-then-reader c = none_marked c.loop-j.words (take 4 (drop 1 c.args.block.now.limbs)) c.loop-j.j c.loop-j.reader (read_block (packed 64 c.args.block.now.limbs)) c.loop-j.invariant.holds (omega arith) c.if-reader.true

pub returns : goal.returns
returns c = finished c.loop-j.words (take 4 (drop 1 c.args.block.now.limbs)) c.loop-j.j c.loop-j.reader (read_block (packed 64 c.args.block.now.limbs)) c.loop-j.invariant.holds (omega arith) c.loop-j.invariant.long c.if-reader.false
