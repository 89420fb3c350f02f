-- What was read is the front of the input.
use Rattle.std.proofs.Common.{rules, ◌∙◌}
use borrow.Rule.Slice.PartMut.{same_len_mid}
use Rattle.loop_program.proofs.Filling.{more, full, last}
use Rattle.loop_program.proofs.read_text.Goals as goal

pub loop-filled-preserved : goal.loop-filled-preserved
loop-filled-preserved g c =
    let before = c.loop-filled.invariant in
    let read = c.in_ok-n.ensures in
    let taken = more _ _ _ c.loop-filled.filled _ c.in_ok-n.n c.loop-filled.text c.read_some.new.room (search rules) read.bound.0 before.2 read.bytes.0 in
    (same_len_mid _ _ _ _ c.read_some.auto.room ∙ before.0, search rules, taken)

pub returns-then-n-eq0-clause-first : goal.returns-then-n-eq0-clause-first
returns-then-n-eq0-clause-first g c =
    let before = c.loop-filled.invariant in
    let read = c.in_ok-n.ensures in
    let end = read.bytes.1 c.if-n-eq0.true (search rules) in
    last _ _ _ c.loop-filled.filled _ c.in_ok-n.n c.loop-filled.text c.read_some.new.room before.1 (search rules) c.if-n-eq0.true before.2 read.bytes.0 end

pub returns-clause-first : goal.returns-clause-first
returns-clause-first g c = full _ _ _ c.loop-filled.invariant.2 (search rules)
