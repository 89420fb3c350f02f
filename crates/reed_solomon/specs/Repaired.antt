-- What repairing a line of n symbols means.
use Rattle.std.specs.Prelude.{◌≡◌, ℕ, ◌≤◌, List, Some, None, Option}
use Rattle.code.specs.Distance.{distance}
use Rattle.reed_solomon_algebra.specs.CodeWords.{CodeWord}

-- the line became a code word, and it had d wrong symbols, at most t
pub record RepairedTo (t : ℕ) (line line' : List ℕ) (d : ℕ) : Type 0 where
  pub word : CodeWord t line'
  pub answer : d ≡ distance line line'
  pub near : d ≤ t

-- no code word lies within t of the line
abbrev pub Hopeless : ℕ → List ℕ → Type 0
Hopeless t line = (word : List ℕ) → CodeWord t word → distance line word ≤ t → ⊥

abbrev pub Repaired : ℕ → List ℕ → List ℕ → Option ℕ → Type 0
Repaired t line line' (Some d) = RepairedTo t line line' d
Repaired t line line' None = Hopeless t line × (line' ≡ line)
