-- What is left to show of `generator`.
use Rattle.std.proofs.Common.{refl}
use Rattle.field.specs.Field.{mul, mul_lowest, times_x, pow}
use Rattle.reed_solomon_algebra.specs.Polynomials.{plus, scale, times}
use Rattle.reed_solomon_algebra.specs.CodeWords.{generator}
use Rattle.reed_solomon.proofs.codec.generator.Goals as goal

pub returns : goal.returns
unfolding generator times plus scale mul mul_lowest times_x pow
returns c = refl
