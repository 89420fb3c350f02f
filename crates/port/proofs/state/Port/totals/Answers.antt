use Rattle.std.proofs.Common.{refl}
use Rattle.port.specs.Runs.{asked}
use Rattle.port.proofs.Counting.{counted}
use Rattle.port.proofs.state.Port.totals.Goals as goal

pub returns : goal.returns
returns g c = record { value = refl; counts = λ o h r. counted _ o r; extends = λ o h r. asked r }
