use Rattle.std.proofs.Common.{◌≡◌, not, is_some, ◌∙◌, arith, rules, nat_lt, length}
use borrow.Author.Tests.{tests}
use Rattle.std.proofs.lemmas.Bool.Decides.{nat_tests}
use Rattle.std.proofs.lemmas.Iterator.{YieldsList-from_slice}
use Rattle.std.proofs.lemmas.Iterator.Search.{position_from_yields_List}
use Rattle.std.proofs.lemmas.Iterator.Adapters.{position_from-zero}
use Rattle.std.specs.List.{position_from}
use Rattle.text.specs.Text.{hex_digit}
use Rattle.text.proofs.Alike.{digits_fault}
use Rattle.text.proofs.tokens.Part.body_fault.Goals as goal

pub returns : goal.returns
returns c =
    let w : c.position-wrong.result ≡ position_from (λ b. not (is_some (hex_digit b))) 0 c.args.bytes.now =
    position_from_yields_List (λ b. not (is_some (hex_digit b))) _ _ c.position-wrong.result c.position-wrong.ensures.ran (YieldsList-from_slice _ c.iter.ensures.rest) (λ x b q k. search (rules, tests)) ∙ position_from-zero (λ b. not (is_some (hex_digit b))) c.args.bytes.now in
    digits_fault c.args.self.now.column 16 c.args.bytes.now (nat_lt (length c.args.bytes.now) 16) c.position-wrong.result c.fault_of.result c.fault_of.ensures w c.requires (λ h. grind (arith, nat_tests)) (λ h. grind (arith, nat_tests))
