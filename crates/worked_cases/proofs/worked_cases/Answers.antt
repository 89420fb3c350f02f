-- What is left to show of `worked_cases`.
use mathlib.Core.Path.{refl}
use Rattle.worked_cases.proofs.Cases.{all_hold}
use Rattle.worked_cases.proofs.worked_cases.Goals as goal

pub returns : goal.returns
returns c = record { hold = all_hold; count = refl }
