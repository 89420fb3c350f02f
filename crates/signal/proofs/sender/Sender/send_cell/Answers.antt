-- The two halves make the cell.
use Rattle.std.proofs.Common.{not, replicate}
use Rattle.std.specs.Int.{from_bool}
use Rattle.signal.proofs.Levels.{other_level, differing}
use Rattle.signal.proofs.Cells.{cell_from}
use Rattle.signal.proofs.Sent.{sent_more}
use Rattle.signal.proofs.sender.Sender.send_cell.Goals as goal

pub returns : goal.returns
returns c =
    let first = not c.back-first.result in
    sent_more c.send_level.new.self c.send_level-2.new.self c.args.self.now (replicate 4 (from_bool first)) _ _
    c.send_level.ensures c.send_level-2.ensures
    (cell_from _ _ _ _ (from_bool c.args.bit) c.back-first.ensures (other_level c.back-first.result) (differing first c.args.bit))
