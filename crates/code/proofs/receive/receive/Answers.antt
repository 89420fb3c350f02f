-- The law of the code pins what the call does.
use Rattle.code.specs.Once.{one_near, sure}
use Rattle.code.proofs.receive.receive.Goals as goal

pub returns : goal.returns
returns g c =
    let m = g.C.Code.model c.args.code.now in
    let law = g.met.C.Code.lawful c.args.code.now in
    record { mended = c.mend.ensures; alone = one_near m law; sure = sure m law c.args.line.now c.args.message.now c.mend.new.line c.mend.new.message c.mend.result c.mend.ensures }
