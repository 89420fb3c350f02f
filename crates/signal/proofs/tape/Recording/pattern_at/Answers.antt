-- The seed is the one at the start, and each later bit was compared with its sum.
use Rattle.std.proofs.Common.{◌≡◌, ◌+◌, ◌-◌, arith}
use Rattle.signal.specs.Tape.{tui}
use Rattle.signal.proofs.Patterned.{seed_first, first_seed, one_seed, pattern_grows, sums_stand}
use Rattle.signal.proofs.tape.Recording.pattern_at.Goals as goal

pub returns-then-seed-eq0 : goal.returns-then-seed-eq0
returns-then-seed-eq0 c = λ seed h.
    let bits = tui c.args.self.now in
    let p = c.args.place in
    let found = c.seed_at-seed.ensures in
    let same : seed ≡ c.seed_at-seed.result = one_seed bits seed c.seed_at-seed.result p (omega (arith, h.0.1)) found.0 (first_seed bits seed p h.1) found.1 in
    omega (arith, same, h.0.0, c.if-seed-eq0.true)

pub loop-at-init : goal.loop-at-init
loop-at-init c =
    let n : c.args.place + 11 - c.args.place ≡ 11 = omega arith in
    (omega arith, rw n (seed_first (tui c.args.self.now) c.seed_at-seed.result c.args.place c.seed_at-seed.ensures.1))

pub returns-then-not-sum_at : goal.returns-then-not-sum_at
returns-then-not-sum_at c = λ seed h. c.if-not-sum_at.ensures (sums_stand (tui c.args.self.now) seed c.args.place c.loop-at.at (omega arith) (omega arith) h.1)

pub loop-at-preserved : goal.loop-at-preserved
loop-at-preserved c =
    let grown = pattern_grows (tui c.args.self.now) c.seed_at-seed.result c.args.place c.loop-at.at (omega arith) (omega arith) c.loop-at.invariant.1 c.if-not-sum_at.ensures in
    (omega arith, grown)
