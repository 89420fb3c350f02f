use Rattle.blocks.specs.Packed.{packed}
use Rattle.blocks.proofs.Promised.{reads_back, block_read}
use Rattle.blocks.proofs.block.Block.words.Goals as goal

pub returns : goal.returns
returns c =
    let b = packed 64 c.args.self.now.limbs in
    let narrow = c.args.self.now.narrow in
    let e = c.words_of.ensures in
    record {
      rules = block_read b c.words_of.result narrow e;
      back = reads_back b c.words_of.result e;
      value = e;
      narrow = narrow;
    }
