-- What a text is answered, by cases of what it says.
use Rattle.std.specs.Prelude.{◌≡◌, ◌≤◌, Ok, Err, Result}
use Rattle.code.specs.Codes.{Model}
use Rattle.text.specs.Text as of_text
use Rattle.text.specs.declared.refusal.TextRefusal.{TextRefusal}
use Rattle.port.specs.declared.totals.Totals.{Totals}
use Rattle.loopback.specs.Carried.{one_with_seven}

-- a refused text is answered with its refusal, and any other, over a code that mends seven symbols, with 1 0 7
abbrev pub Answers : Model → of_text.Answer → Result Totals TextRefusal → Type 0
Answers m (Err e) r = r ≡ Err e
Answers m (Ok ws) r = (a : Totals) × (r ≡ Ok a) × (7 ≤ m.t → a ≡ one_with_seven)
