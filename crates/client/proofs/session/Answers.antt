use Rattle.std.proofs.Common.{◌≡◌, ◌∷◌, length, ◌∙◌, subst, arith}
use Rattle.port.specs.Runs.{Event, read, Extends}
use Rattle.client.proofs.Finish.{finish}
use Rattle.client.proofs.session.Goals as goal

pub loop-preserved : goal.loop-preserved
loop-preserved g c =
    let i = c.loop.invariant in
    let event : Event = read c.loop.line c.loop.words c.read.new.line c.read.new.words c.read.result in
    let e = subst (λ k. Extends (g.C.Code.model k) c.loop.port.totals c.read.new.self.totals event) i.2 c.read.ensures.extends in
    (event ∷ i.0, omega arith, c.read.ensures.code ∙ i.2, λ o h r. e o _ (i.3 o h r))

pub returns : goal.returns
returns g c =
    let i = c.loop.invariant in
    let b = c.in_ok-port.ensures in
    let n : length i.0 ≡ c.args.readings = omega arith in
    finish g.C.Code.model c.args.code c.in_ok-port.port.code c.args.opening c.in_ok-port.port.totals c.loop.port.totals c.totals.result i.0 _ c.args.readings
    b.made.0 b.begins c.write.ensures.extends i.3 c.totals.ensures.value b.promise n
