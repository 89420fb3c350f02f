-- The readings so far are a run, and the port keeps its code.
use Rattle.std.proofs.Common.{◌≡◌, List, length}
use Rattle.port.specs.Runs.{Event}
use Rattle.client.specs.Sessions.{Leads}
use Rattle.client.proofs.session.Given as goal

abbrev pub invariant-loop : goal.invariant-loop
invariant-loop g l =
    (hs : List Event) × (length hs ≡ l.counter) × (l.port.code ≡ l.initial.port.code) × Leads (g.C.Code.model l.initial.port.code) l.initial.port.totals l.port.totals hs
