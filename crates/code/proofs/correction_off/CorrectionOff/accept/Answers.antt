-- The code below found the copy to be a code word, or had to mend it.
use Rattle.std.proofs.Common.{refl, subst, rules}
use Rattle.code.specs.Codes.{Far}
use Rattle.code.specs.Layers.{off}
use Rattle.code.proofs.Off.{off_found, off_far}
use Rattle.code.proofs.correction_off.CorrectionOff.accept.Goals as goal

pub returns-then-wrong-gt0 : goal.returns-then-wrong-gt0
returns-then-wrong-gt0 g c =
    let m = g.C.Code.model c.args.self.now.inner in
    let law = g.met.C.Code.lawful c.args.self.now.inner in
    let far = off_far m _ _ _ _ _ law c.in_ok-wrong.ensures (search rules) in
    ((search rules, search rules, subst (Far (off m)) c.copy_from_slice.ensures.after far), refl, refl)

pub returns : goal.returns
returns g c =
    let m = g.C.Code.model c.args.self.now.inner in
    let law = g.met.C.Code.lawful c.args.self.now.inner in
    off_found m _ c.args.message.now _ _ _ _ _ _ law c.copy_from_slice.ensures.after c.in_ok-wrong.ensures (search rules) c.copy_from_slice-2.ensures.after (search rules)
