use Rattle.std.proofs.Common.{◌≡◌, ◌+◌, ◌*◌, ◌/◌, length, take}
use Rattle.words.specs.Words.{raws}
use Rattle.words.specs.Raw.{AllValid}
use Rattle.symbols.specs.Symbols.{Symbols}
use Rattle.messages.specs.Writers.{count, under}
use Rattle.messages.specs.Numbers.{message}
use Rattle.messages.proofs.writing.write.Given as goal

abbrev pub invariant-loop-four : goal.invariant-loop-four
invariant-loop-four l = record {
  same : l.writer.out.ghost_name ≡ l.initial.writer.out.ghost_name;
  long : length l.writer.out.now ≡ 514;
  whole : 4 * (length l.rest / 4) ≡ length l.rest;
  written : count l.writer + 257 * (length l.rest / 4) ≡ 5140;
  small : Symbols (take l.writer.at l.writer.out.now);
  means : under l.writer (message (length l.rest / 4) (raws l.rest)) ≡ message 20 (raws l.words);
  valid : AllValid (raws l.rest) → AllValid (raws l.words);
}

abbrev pub decreases-loop-four : goal.decreases-loop-four
decreases-loop-four l = length l.rest
