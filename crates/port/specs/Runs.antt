-- Runs of calls on one port, and how each call makes a run longer.
use Rattle.std.specs.Prelude.{ℕ, List, [], ◌∷◌, Result}
use Rattle.words.specs.declared.word.Word.{Word}
use Rattle.code.specs.Codes.{Model}
use Rattle.port.specs.Limits.{Within}
use Rattle.port.specs.Calls.{Written, Reads}
use Rattle.port.specs.declared.totals.Totals.{Totals}
use Rattle.port.specs.declared.refusal.PortRefusal.{PortRefusal}

-- one call, with what it was given and what came of it
pub data Event : Type 0 where
  write : (words : List Word) (line line' : List ℕ) (r : Result Unit PortRefusal) → Event
  read : (line : List ℕ) (words : List Word) (line' : List ℕ) (words' : List Word) (r : Result Unit PortRefusal) → Event
  ask : Totals → Event

-- a port over m was opened with the totals `opening` and given the calls of the list since, the last one first, and no others;
-- it has the totals a now
pub data Reached (m : Model) (opening : Totals) : List Event → Totals → Type 0 where
  opened : Within opening → Reached m opening [] opening
  wrote : {h : List Event} {a : Totals} {words : List Word} {line line' : List ℕ} {r : Result Unit PortRefusal}
      → Reached m opening h a → Written m words line line' r → Reached m opening (write words line line' r ∷ h) a
  has_read : {h : List Event} {a a' : Totals} {line : List ℕ} {words : List Word} {line' : List ℕ} {words' : List Word} {r : Result Unit PortRefusal}
      → Reached m opening h a → Reads m a line words line' words' a' r → Reached m opening (read line words line' words' r ∷ h) a'
  asked : {h : List Event} {a : Totals} → Reached m opening h a → Reached m opening (ask a ∷ h) a

-- a call took the totals from a to a' and is the event e: it makes every run to a longer by e
abbrev pub Extends : Model → Totals → Totals → Event → Type 0
Extends m a a' e = (opening : Totals) (h : List Event) → Reached m opening h a → Reached m opening (e ∷ h) a'
