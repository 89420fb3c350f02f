-- For proofs: a mending that reads the line and leaves its word in another place.
use Rattle.std.specs.Prelude.{◌≡◌, ℕ, List, Ok, Err, Result}
use Rattle.code.specs.Codes.{Model}
use Rattle.code.specs.Calls.{MendedOk, MendRefused}
use Rattle.code.specs.declared.refusal.CodeRefusal.{CodeRefusal}

-- as Mended, but that a refusal says nothing of the other place
abbrev pub MendedInto : Model → List ℕ → List ℕ → List ℕ → List ℕ → Result ℕ CodeRefusal → Type 0
MendedInto m line message word' message' (Ok d) = MendedOk m line message word' message' d
MendedInto m line message word' message' (Err e) = MendRefused m line message e × (message' ≡ message)
