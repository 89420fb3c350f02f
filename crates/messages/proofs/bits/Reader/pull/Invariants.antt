use Rattle.std.proofs.Common.{◌≡◌, ◌+◌, ◌-◌, ◌^◌, ◌<◌}
use Rattle.symbols.specs.Symbols.{Symbols}
use Rattle.messages.specs.Readers.{ahead}
use Rattle.messages.proofs.bits.Reader.pull.Given as goal

abbrev pub invariant-loop-self : goal.invariant-loop-self
invariant-loop-self l = record {
  held : l.self-inside.acc < 2 ^ l.self-inside.fill;
  few : l.self-inside.fill < l.width + 10;
  small : Symbols l.self-inside.symbols.now;
  same : ahead l.self-inside.acc l.self-inside.fill l.self-inside.symbols.now ≡ l.fn.self;
}

abbrev pub decreases-loop-self : goal.decreases-loop-self
decreases-loop-self l = l.width - l.self-inside.fill
