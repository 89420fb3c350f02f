-- The law of the code below makes the layer exact.
use Rattle.std.proofs.Common.{refl}
use Rattle.code.proofs.Off.{exact}
use Rattle.code.proofs.correction_off.CorrectionOff.over.Goals as goal

pub returns : goal.returns
returns g c = record { inner = refl; exact = exact (g.C.Code.model c.args.inner) (g.met.C.Code.lawful c.args.inner) }
