use Rattle.std.proofs.Common.{◌≡◌, ◌*◌, take}
use Rattle.blocks.specs.Packed.{packed}
use Rattle.messages.specs.Writers.{Pushed}
use Rattle.messages.proofs.bits.Writer.push_block.Given as goal

abbrev pub invariant-loop-limb : goal.invariant-loop-limb
invariant-loop-limb l = record {
  same : l.self.out.ghost_name ≡ l.initial.self.out.ghost_name;
  pushed : Pushed (packed 64 (take l.limb-index l.limb-items)) (64 * l.limb-index) l.initial.self l.self;
}
