use Rattle.std.proofs.Common.{◌≡◌, ℕ, ◌+◌, ◌-◌, ◌*◌, ◌/◌, ◌%◌, ◌^◌, ◌<◌, ◌≤◌, length, take, sym, subst, ap, ◌∙◌, arith}
use Rattle.std.proofs.lemmas.List.{take_all}
use borrow.Rule.Slice.PartMut.{same_len_mid}
use Rattle.blocks.specs.Packed.{onto}
use Rattle.messages.proofs.Shifts.{shifted, held_more, begun, held_less, moved, small_more, put_part, joined, small_append}
use Rattle.messages.proofs.bits.Writer.push.Goals as goal

pub loop-symbol-init : goal.loop-symbol-init
loop-symbol-init c =
    let old = c.args.self.now in
    let s = shifted c.args.value old.fill c.args.width c.requires.narrow.0 c.requires.narrow.1 old.few in
    let h = held_more old.acc c.args.value old.fill c.args.width old.held c.requires.narrow.0 in
    let fill : ℕ = old.fill + c.args.width in
    let acc : ℕ = old.acc + c.args.value * 2 ^ old.fill % 2 ^ 128 in
    let e : fill ≡ fill - 10 * 0 = omega arith in
    let held : acc < 2 ^ fill = omega (arith, h, s) in
    record {
      held = subst (λ (n : ℕ). acc < 2 ^ n) e held;
      small = λ k l. absurd (omega arith);
      means = λ more. ap (λ (n : ℕ). acc + 2 ^ n * more) (sym e);
    }

pub loop-symbol-preserved : goal.loop-symbol-preserved
loop-symbol-preserved c =
    let inv = c.loop-symbol.invariant in
    let fill = c.args.self.now.fill + c.args.width in
    let i = c.loop-symbol.symbol-index in
    let room : i < length c.loop-symbol.symbol-items = omega arith in
    let some : 10 ≤ fill - 10 * i = omega arith in
    let e : fill - 10 * (i + 1) ≡ fill - 10 * i - 10 = omega arith in
    record {
      held = rw e (held_less c.loop-symbol.acc (fill - 10 * i) some inv.held);
      small = small_more c.loop-symbol.symbol-items i (c.loop-symbol.acc % 1024) room inv.small (omega arith);
      means = λ more. rw e (moved c.loop-symbol.symbol-items i c.loop-symbol.acc (fill - 10 * i) more room some ∙ inv.means more);
    }

pub invariant_of-self : goal.invariant_of-self
invariant_of-self c =
    let fill = c.args.self.now.fill + c.args.width in
    let e : fill - 10 * c.loop-symbol.symbol-index ≡ fill % 10 = omega arith in
    record { held = rw e at c.loop-symbol.invariant.held; few = omega arith }

pub returns-clause-bits : goal.returns-clause-bits
returns-clause-bits c =
    let inv = c.loop-symbol.invariant in
    let old = c.args.self.now in
    let items = c.loop-symbol.symbol-items in
    let fill = old.fill + c.args.width in
    let s = shifted c.args.value old.fill c.args.width c.requires.narrow.0 c.requires.narrow.1 old.few in
    let e : fill - 10 * c.loop-symbol.symbol-index ≡ fill % 10 = omega arith in
    let t : take c.loop-symbol.symbol-index items ≡ items = take_all _ items (omega arith) in
    let p = put_part old.out.now items _ old.at (old.at + fill / 10) (omega arith) (omega arith) in
    record {
      long = same_len_mid old.at _ old.out.now items (omega arith);
      small = λ r. rw p (small_append (take old.at old.out.now) items r (rw t at inv.small));
      counts = omega arith;
      means = λ more.
          (let b = begun old.acc c.args.value old.fill c.args.width more in
          joined old.out.now items _ old.at _ _ _ p (rw (t, e) at (inv.means more))
          ∙ ap (λ (v : ℕ). onto 10 (take old.at old.out.now) (old.acc + v + 2 ^ fill * more)) s
          ∙ ap (onto 10 (take old.at old.out.now)) b);
    }
