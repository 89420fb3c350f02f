-- Lists of places and errors, as lists of numbers and of terms.
use Rattle.std.specs.Prelude.{ℕ, ◌-◌, List, map, take}
use Rattle.field.specs.Field.{pow, α}
use Rattle.reed_solomon_algebra.specs.Terms.{Term}
use Rattle.reed_solomon_decoder.specs.declared.line.Place.{Place}
use Rattle.reed_solomon_decoder.specs.declared.errors.Error.{Error}
use Rattle.reed_solomon_decoder.specs.declared.answer.Errors.{Errors}

-- the errors of an answer
abbrev pub errors_of : Errors → List Error
errors_of c = take c.count c.room

abbrev pub indices : List Place → List ℕ
indices ps = map (λ p. p.index) ps

abbrev pub places : List Error → List Place
places es = map (λ e. e.place) es

abbrev pub values : List Error → List ℕ
values es = map (λ e. e.value) es

-- each error's value at the locator of its place in a line of n symbols
abbrev pub listed_in : ℕ → List Error → List Term
listed_in n es = map (λ e. record { coef = e.value; place = pow α (n - 1 - e.place.index) }) es

-- the same in a line of 528
abbrev pub listed : List Error → List Term
listed es = listed_in 528 es
