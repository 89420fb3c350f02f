use Rattle.std.proofs.Common.{◌≡◌, ℕ, ◌+◌, ◌-◌, ◌*◌, ◌^◌, ◌<◌, take}
use Rattle.blocks.specs.Packed.{onto}
use Rattle.symbols.specs.Symbols.{Symbols}
use Rattle.messages.proofs.bits.Writer.push.Given as goal

abbrev pub invariant-loop-symbol : goal.invariant-loop-symbol
invariant-loop-symbol l = record {
  held : l.acc < 2 ^ (l.fill - 10 * l.symbol-index);
  small : Symbols (take l.symbol-index l.symbol-items);
  means : (more : ℕ) → onto 10 (take l.symbol-index l.symbol-items) (l.acc + 2 ^ (l.fill - 10 * l.symbol-index) * more) ≡ l.initial.acc + 2 ^ l.fill * more;
}
