-- What is left to show of `step`.
use Rattle.std.proofs.Common.{ℕ, List, [], ◌∷◌, ◌++◌, get_or, drop, ap₂, ◌∙◌, arith, length-drop}
use Rattle.std.proofs.lemmas.List.{take_all}
use lib.Bits.{xor_lt}
use Rattle.reed_solomon_algebra.specs.Division.{below_first}
use Rattle.reed_solomon_algebra.specs.Polynomials.{plus}
use Rattle.reed_solomon.proofs.Register.{stepped}
use Rattle.reed_solomon.proofs.division.step.Goals as goal

pub multiples-requires : goal.multiples-requires
multiples-requires c =
    xor_lt 10 c.args.symbol (get_or c.args.tail.now 0 0) c.requires.small (c.requires.symbols 0 (omega arith))

pub returns : goal.returns
returns c =
    let moved = c.copy_from_slice.ensures.after ∙ take_all 13 (drop 1 c.args.tail.now) (omega (arith, length-drop 1 c.args.tail.now)) in
    c.plus.ensures
    ∙ ap₂ (λ (xs ys : List ℕ). plus (xs ++ 0 ∷ []) ys) moved c.multiples.ensures
    ∙ stepped (below_first 14) c.args.tail.now c.args.symbol (omega arith)
