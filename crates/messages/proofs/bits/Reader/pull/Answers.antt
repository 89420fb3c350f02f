use Rattle.std.proofs.Common.{◌≡◌, ℕ, List, get_or, sym, ◌/◌, ◌%◌, ◌^◌, ◌<◌, length, drop, ap, ◌∙◌, arith}
use Rattle.blocks.specs.Packed.{packed}
use Rattle.messages.specs.Readers.{Ahead}
use Rattle.messages.proofs.Pulls.{small_rest, drawn, mask, low_bits, high_bits, held_after}
use Rattle.messages.proofs.bits.Reader.pull.Goals as goal

pub loop-self-preserved : goal.loop-self-preserved
loop-self-preserved c =
    let inv = c.loop-self.invariant in
    let now = c.loop-self.self-inside in
    let xs = now.symbols.now in
    let count = ap (λ (a : Ahead). a.count) inv.same in
    let some : 0 < length xs = omega (arith, count) in
    let split = rw c.unwrap.ensures at c.split_first.ensures.cases in
    let head : get_or xs 0 0 ≡ c.unwrap.result.0.now = ap (λ (ys : List ℕ). get_or ys 0 0) split.0 in
    let is : c.unwrap.result.1.now ≡ drop 1 xs = sym (ap (λ (ys : List ℕ). drop 1 ys) split.0) in
    let d = drawn now.acc now.fill xs _ is (omega arith) some (inv.small 0 some) inv.held in
    record { held = rw head at d.0; few = omega arith; small = small_rest now.acc now.fill xs _ is inv.small; same = (rw head at d.1) ∙ inv.same }

pub invariant_of-self : goal.invariant_of-self
invariant_of-self c =
    let inv = c.loop-self.invariant in
    let now = c.loop-self.self-inside in
    record { held = held_after now.acc now.fill c.args.width (packed 10 now.symbols.now) (omega arith) inv.held; few = omega arith; small = inv.small }

pub returns-clause-value : goal.returns-clause-value
returns-clause-value c =
    let inv = c.loop-self.invariant in
    let now = c.loop-self.self-inside in
    mask now.acc c.args.width c.requires.narrow ∙ low_bits now.acc now.fill c.args.width (packed 10 now.symbols.now) (omega arith) ∙ ap (λ (a : Ahead). a.bits % 2 ^ c.args.width) inv.same

pub returns-clause-bits : goal.returns-clause-bits
returns-clause-bits c =
    let inv = c.loop-self.invariant in
    let now = c.loop-self.self-inside in
    high_bits now.acc now.fill c.args.width (packed 10 now.symbols.now) (omega arith) ∙ ap (λ (a : Ahead). a.bits / 2 ^ c.args.width) inv.same
