-- What the code below says of the unscrambled copy, said of the line.
use Rattle.std.proofs.Common.{ap, ◌∙◌, rules}
use Rattle.std.proofs.lemmas.Result.{err_from_is_err_and}
use Rattle.code.specs.Layers.{with_key}
use Rattle.code.specs.Layered.{scrambled_found, scrambled_refused}
use Rattle.code.proofs.scrambled.Scrambled.mend_into.Goals as goal

pub returns-in_err-wrong : goal.returns-in_err-wrong
returns-in_err-wrong g c =
    let m = g.C.Code.model c.args.self.now.inner in
    let law = g.met.C.Code.lawful c.args.self.now.inner in
    let copy = c.add_key.ensures ∙ ap with_key c.copy_from_slice.ensures.after in
    let h = c.in_err-wrong.ensures in
    let p = err_from_is_err_and c.from_residual-in_err-wrong.result c.from_residual-in_err-wrong.ensures.1 in
    rw (p.1, p.2) (scrambled_refused m c.args.line.now c.args.message.now _ _ law c.requires.sized (search rules) copy h.0, h.2)

pub returns : goal.returns
returns g c =
    let m = g.C.Code.model c.args.self.now.inner in
    let law = g.met.C.Code.lawful c.args.self.now.inner in
    let copy = c.add_key.ensures ∙ ap with_key c.copy_from_slice.ensures.after in
    scrambled_found m c.args.line.now c.args.message.now _ _ _ _ _ law c.requires.sized (search rules) copy c.in_ok-wrong.ensures c.add_key-2.ensures
