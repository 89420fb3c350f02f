use Rattle.std.proofs.Common.{◌≡◌, [], refl, sym, subst, rules}
use Rattle.port.specs.Limits.{zeros}
use Rattle.port.specs.Runs.{Reached, opened}
use Rattle.port.proofs.Promised.{promised}
use Rattle.port.proofs.state.Port.new.Goals as goal

pub returns : goal.returns
returns g c =
    let m = g.C.Code.model c.args.code in
    let none : c.default.result ≡ zeros = search rules in
    record { code = refl; totals = none; begins = subst (Reached m zeros []) (sym none) (opened (search rules)); promise = promised m (g.met.C.Code.lawful c.args.code) }
