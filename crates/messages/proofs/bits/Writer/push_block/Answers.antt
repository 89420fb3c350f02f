use Rattle.std.proofs.Common.{refl, ◌∙◌, [], ◌∷◌, get_or, arith}
use Rattle.messages.proofs.Chains.{none_pushed, limb_more, last_limb, top}
use Rattle.messages.proofs.bits.Writer.push_block.Goals as goal

pub loop-limb-init : goal.loop-limb-init
loop-limb-init c = record { same = refl; pushed = none_pushed c.args.self.now }

pub loop-limb-preserved : goal.loop-limb-preserved
loop-limb-preserved c =
    let inv = c.loop-limb.invariant in
    let xs = c.args.block.now.limbs in
    record {
      same = c.push.ensures.same ∙ inv.same;
      pushed = limb_more (get_or xs 0 0 ∷ get_or xs 1 0 ∷ get_or xs 2 0 ∷ get_or xs 3 0 ∷ []) c.loop-limb.limb-index c.loop-limb-test.true inv.pushed c.push.ensures.bits;
    }

pub push-requires-2 : goal.push-requires-2
push-requires-2 c =
    let inv = c.loop-limb.invariant in
    record { narrow = (top c.args.block.now.limbs c.args.block.now.narrow, omega arith); room = omega (arith, inv.pushed.long, inv.pushed.counts) }

pub returns : goal.returns
returns c =
    let inv = c.loop-limb.invariant in
    record { same = c.push-2.ensures.same ∙ inv.same; bits = last_limb c.args.block.now.limbs c.loop-limb.limb-index (omega arith) (omega arith) inv.pushed c.push-2.ensures.bits }
