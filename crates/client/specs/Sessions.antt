-- What the client's calls answer, in the words of the port's promise.
use Rattle.std.specs.Prelude.{◌≡◌, ℕ, List, ◌++◌, length}
use Rattle.code.specs.Codes.{Model}
use Rattle.port.specs.Runs.{Event, Reached}
use Rattle.port.specs.Promise.{Counts}
use Rattle.port.specs.declared.totals.Totals.{Totals}

-- the calls of the list, the last one first, take the totals from a to a'
abbrev pub Leads : Model → Totals → Totals → List Event → Type 0
Leads m a a' hs = (o : Totals) (h : List Event) → Reached m o h a → Reached m o (hs ++ h) a'

-- the totals come from the opening ones by a run of so many calls, and count it
pub record Session (m : Model) (opening : Totals) (calls : ℕ) (a : Totals) : Type 0 where
  pub run : List Event
  pub long : length run ≡ calls
  pub reached : Reached m opening run a
  pub counts : Counts m opening run a
