use Rattle.std.proofs.Common.{◌≡◌, ◌-◌, length, take, drop}
use Rattle.words.specs.Words.{raws}
use Rattle.blocks.specs.Packed.{packed}
use Rattle.blocks.specs.Reading.{read_block}
use Rattle.blocks.specs.Taking.{left, after_all}
use Rattle.blocks.proofs.reading.words_of.Given as goal

abbrev pub invariant-loop-j : goal.invariant-loop-j
invariant-loop-j l = record {
  long : length l.words ≡ 4;
  holds : read_block (packed 64 l.block.limbs) ≡ after_all (raws (take l.j l.words)) (left l.reader (4 - l.j) l.j (packed 64 (drop l.j l.limb-items)));
}
