-- What is left to show of `log`.
use Rattle.field.proofs.Logs.{logs_at}
use Rattle.field.proofs.log.Goals as goal

pub returns : goal.returns
returns c = logs_at c.args.a c.requires.0 c.requires.1
