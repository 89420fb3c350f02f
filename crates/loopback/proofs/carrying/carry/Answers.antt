use Rattle.std.proofs.Common.{sym, subst, rules}
use Rattle.loopback.specs.Carried.{CarriedHome}
use Rattle.loopback.proofs.Homes.{home}
use Rattle.loopback.proofs.Journeys.{carried}
use Rattle.loopback.proofs.carrying.carry.Goals as goal

pub returns : goal.returns
returns g c =
    let law = g.met.C.Code.lawful c.args.code in
    let done =
    carried g.C.Code.model c.args.code _ (search rules) law c.args.words.now _ c.write.new.line c.flip.new.line c.read.new.line _ c.read.new.words
    c.read.new.self.totals _ c.write.result c.read.result (search rules) (search rules) c.write.ensures.does c.flip.ensures (search rules) (search rules) (search rules) c.read.ensures.does in
    record { carried = subst (CarriedHome (g.C.Code.model c.args.code) c.args.words.now c.read.new.words) (sym c.totals.ensures.value) done; home = home (g.C.Code.model c.args.code) law }
