-- What is left to show of `code_laws`.
use Rattle.reed_solomon_algebra.proofs.Encodes.{code_laws}
use Rattle.reed_solomon_algebra.proofs.code_laws.Goals as goal

pub returns : goal.returns
returns c = code_laws
