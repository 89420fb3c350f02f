-- How far the totals of a port may go.
use Rattle.std.specs.Prelude.{ℕ, ◌+◌, ◌^◌, ◌<◌, ◌≤◌}
use Rattle.port.specs.declared.totals.Totals.{Totals}

-- the limit of accepted and dropped readings together, and of mended symbols
abbrev pub limit : ℕ
limit = 2 ^ 40

-- the totals where nothing is counted yet
abbrev pub zeros : Totals
zeros = record { accepted = 0; dropped = 0; mended = 0 }

abbrev pub Within : Totals → Type 0
Within a = (a.accepted + a.dropped ≤ limit) × (a.mended ≤ limit)

-- there is room for one more reading, which may mend up to t symbols
abbrev pub Room : ℕ → Totals → Type 0
Room t a = (a.accepted + a.dropped < limit) × (a.mended + t ≤ limit)
