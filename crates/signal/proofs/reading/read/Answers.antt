-- The laws that follow from the answer.
use Rattle.signal.proofs.Once.{once, reads_back}
use Rattle.signal.proofs.reading.read.Goals as goal

pub returns-clause-only : goal.returns-clause-only
returns-clause-only c = λ other o. once c.args.recording.now c.args.start c.read.result other (rw c.in_ok-new.ensures at c.read.ensures) o

pub returns-clause-back : goal.returns-clause-back
returns-clause-back c = reads_back c.args.recording.now c.args.start c.read.result (rw c.in_ok-new.ensures at c.read.ensures)
