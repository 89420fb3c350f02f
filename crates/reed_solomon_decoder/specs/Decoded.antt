-- What the decoder answers.
use Rattle.std.specs.Prelude.{ℕ, List, Some, None, Option}
use Rattle.reed_solomon_algebra.specs.Terms.{Term}
use Rattle.reed_solomon_decoder.specs.Errors.{Explains}
use Rattle.reed_solomon_decoder.specs.Listed.{errors_of, listed}
use Rattle.reed_solomon_decoder.specs.declared.answer.Errors.{Errors}

-- the errors listed have these syndromes; or no 7 errors have
abbrev pub Decoded : List ℕ → Option Errors → Type 0
Decoded s (Some c) = Explains 7 528 s (listed (errors_of c))
Decoded s None = (e : List Term) → Explains 7 528 s e → ⊥
