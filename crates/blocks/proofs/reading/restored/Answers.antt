use Rattle.std.proofs.Common.{◌≡◌, ℕ, ◌+◌, ◌*◌, ◌/◌, ◌%◌, ◌<◌, true, ap, ◌∙◌, arith}
use Rattle.words.specs.Types.{listed, high}
use Rattle.blocks.proofs.Nibbles.{restored_type, high_small}
use Rattle.blocks.proofs.reading.restored.Goals as goal

typed : (k h : ℕ) → h ≡ high (k % 16) → 0 < k % 16 → listed ((k % 16 + 16 * h + 256 * (k / 16)) % 256) ≡ true
typed k h e l = rw e (restored_type k l)

told : (k h : ℕ) → h ≡ high (k % 16 % 16) → h ≡ high (k % 16)
told k h e = let s : k % 16 % 16 ≡ k % 16 = omega arith in e ∙ ap high s

pub overflow_add-body-2 : goal.overflow_add-body-2
overflow_add-body-2 c = let s = high_small (c.args.kept % 16) (omega arith) in omega (arith, told c.args.kept c.high_nibble.result c.high_nibble.ensures)

pub invariant_of-result : goal.invariant_of-result
invariant_of-result c = record { typed = typed c.args.kept c.high_nibble.result (told c.args.kept c.high_nibble.result c.high_nibble.ensures) (omega arith) }
