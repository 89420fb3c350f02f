use Rattle.std.proofs.Common.{refl, rules}
use Rattle.port.specs.Runs.{opened}
use Rattle.port.proofs.Promised.{promised}
use Rattle.port.proofs.state.Port.open.Goals as goal

pub returns-then-opening-gt-LIMIT : goal.returns-then-opening-gt-LIMIT
returns-then-opening-gt-LIMIT g c = record { made = search rules; begins = tt; promise = promised (g.C.Code.model c.args.code) (g.met.C.Code.lawful c.args.code) }

pub returns : goal.returns
returns g c = record { made = (refl, refl); begins = opened (search rules); promise = promised (g.C.Code.model c.args.code) (g.met.C.Code.lawful c.args.code) }
