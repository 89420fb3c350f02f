use Rattle.std.proofs.Common.{arith}
use Rattle.blocks.proofs.Readings.{start_data, start_cut}
use Rattle.blocks.proofs.reading.Reader.new.Goals as goal

pub returns-then-low-eq1 : goal.returns-then-low-eq1
returns-then-low-eq1 c = start_data c.args.low (omega arith)

pub returns : goal.returns
returns c = start_cut c.args.low (omega arith)
