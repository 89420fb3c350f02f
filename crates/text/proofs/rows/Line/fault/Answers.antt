use Rattle.text.specs.Tokens.{token_columns}
use Rattle.text.proofs.Faults.{fault_parts}
use Rattle.text.proofs.rows.Line.fault.Goals as goal

pub returns : goal.returns
returns c =
    let line = c.args.self.now in
    let f =
    fault_parts (token_columns line.head.token) (token_columns line.body.token) line.text.now _ _ line.head.column line.body.column c.end.result c.end-2.result
    line.parts.head_place line.parts.head_bytes line.parts.body_place line.parts.body_bytes c.end.ensures c.end-2.ensures in
    cc
