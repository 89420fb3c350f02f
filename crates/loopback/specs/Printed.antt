-- The bytes that are printed for an answer.
use Rattle.std.specs.Prelude.{ℕ, List, [], ◌∷◌, ◌++◌, codes, decimal, Ok, Err, Result}
use Rattle.port.specs.declared.totals.Totals.{Totals}
use Rattle.text.specs.Refusals.{number, row, column}
use Rattle.text.specs.declared.refusal.TextRefusal.{TextRefusal}

-- a line of three decimal numbers, one space between
abbrev pub values : ℕ → ℕ → ℕ → List ℕ
values a b c = decimal a ++ (32 ∷ (decimal b ++ (32 ∷ (decimal c ++ (10 ∷ [])))))

abbrev pub printed : Result Totals TextRefusal → List ℕ
printed (Ok a) = codes "accepted dropped mended" ++ (10 ∷ values a.accepted a.dropped a.mended)
printed (Err e) = codes "refusal row column" ++ (10 ∷ values (number e) (row e) (column e))
