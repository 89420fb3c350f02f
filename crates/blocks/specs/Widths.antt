-- For proofs: how many bits wait between two limbs, as a power of two.
use Rattle.std.specs.Prelude.{ℕ, ◌^◌, Bool, true, false}

-- writing: the 5 bits or the 1 that stand below the bodies
abbrev pub weight : Bool → ℕ
weight true = 32
weight false = 2

-- reading: a limb less the 5 bits or the 1 that stand below the bodies
abbrev pub room : Bool → ℕ
room true = 2 ^ 59
room false = 2 ^ 63
