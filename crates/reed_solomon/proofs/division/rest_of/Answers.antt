-- What is left to show of `rest_of`.
use Rattle.std.proofs.Common.{◌≡◌, drop, ap₂, ◌∙◌, rules}
use Rattle.reed_solomon_algebra.specs.Polynomials.{plus}
use Rattle.reed_solomon.proofs.Rests.{take_symbols}
use Rattle.reed_solomon.proofs.division.rest_of.Goals as goal

pub divide-requires : goal.divide-requires
divide-requires c = take_symbols 514 c.args.line.now c.requires

pub returns : goal.returns
returns c =
    let tail : c.unwrap.result.now ≡ drop 514 c.args.line.now = search rules in
    c.plus.ensures ∙ ap₂ plus c.divide.ensures tail
