use Rattle.std.proofs.Common.{◌≡◌, ◌+◌, ◌-◌, ◌*◌, length, take}
use Rattle.blocks.specs.Packed.{packed}
use Rattle.words.specs.Words.{raws}
use Rattle.messages.specs.Reading.{read_message, behind}
use Rattle.messages.proofs.reading.read.Given as goal

abbrev pub invariant-loop-b : goal.invariant-loop-b
invariant-loop-b l = record {
  long : length l.words ≡ 80;
  count : l.reader.count + 257 * l.b-counter ≡ 5140;
  holds : read_message 20 0 (packed 10 l.symbols) ≡ behind (raws (take (4 * l.b-counter) l.words)) (read_message (20 - l.b-counter) l.b-counter l.reader.bits);
}
