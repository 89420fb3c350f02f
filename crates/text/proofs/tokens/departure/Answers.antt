use Rattle.std.proofs.Common.{◌≡◌, not, ◌∙◌, arith, rules, nat_lt, length, eqb}
use borrow.Author.Tests.{tests}
use Rattle.std.proofs.lemmas.Bool.Decides.{nat_tests}
use Rattle.std.proofs.lemmas.Iterator.{YieldsList-from_slice, YieldsList-from_zip}
use Rattle.std.proofs.lemmas.Iterator.Search.{position_from_yields_List}
use Rattle.std.proofs.lemmas.Iterator.Adapters.{position_from-zero}
use Rattle.std.specs.List.{position_from, zip}
use Rattle.text.proofs.Alike.{name_fault}
use Rattle.text.proofs.tokens.departure.Goals as goal

pub returns : goal.returns
returns c =
    let w : c.position-wrong.result ≡ position_from (λ p. not (eqb p.0 p.1)) 0 (zip c.args.bytes.now c.args.expected.now) =
    position_from_yields_List (λ p. not (eqb p.0 p.1)) c.position-wrong.new.self _ c.position-wrong.result c.position-wrong.ensures.ran (YieldsList-from_zip {s = c.zip-pairs.result} (YieldsList-from_slice c.args.bytes.now cc) (YieldsList-from_slice c.args.expected.now cc)) (λ x b q k. search (rules, tests)) ∙ position_from-zero (λ p. not (eqb p.0 p.1)) (zip c.args.bytes.now c.args.expected.now) in
    name_fault c.args.column c.args.expected.now c.args.bytes.now (nat_lt (length c.args.bytes.now) (length c.args.expected.now)) c.position-wrong.result c.fault_of.result c.fault_of.ensures w (λ h. grind (arith, nat_tests)) (λ h. grind (arith, nat_tests))
