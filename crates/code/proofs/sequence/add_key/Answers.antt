-- The table passes the test of the recurrence, so what was added is the key.
use Rattle.code.specs.Sequence.{history}
use Rattle.code.proofs.Table.{key_added}
use Rattle.code.proofs.sequence.add_key.Goals as goal

pub returns : goal.returns
unfolding history
returns c = key_added _ _ _ tt c.requires c.add.ensures
