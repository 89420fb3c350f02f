-- What is left to show of `lower`.
use Rattle.std.proofs.Common.{◌≡◌, ℕ, ap, ◌∙◌}
use Rattle.field.specs.Field.{mul, pow}
use Rattle.reed_solomon_decoder.specs.Exponents.{term_of}
use Rattle.reed_solomon_decoder.proofs.Exponents.{lowered_none, lowered_down, lowered_around, term_lt}
use Rattle.reed_solomon_decoder.proofs.search.Power.lower.Goals as goal
use Rattle.reed_solomon_decoder.proofs.search.Power.lower.Goals.{then-e-ge-ZERO, else-e-ge-ZERO+then-e-k, else-e-ge-ZERO+else-e-k}

pub returns : goal.returns
returns c =
    let e : ℕ = c.self.inside.exponent in
    let k : ℕ = c.args.k in
    let lowered : mul (pow 2 k) (term_of c.if-e-ge-ZERO.self) ≡ term_of e =
    elim c.if-e-ge-ZERO.branch [
      | then-e-ge-ZERO w ↦ ap (λ (x : ℕ). mul (pow 2 k) (term_of x)) w.self-is ∙ lowered_none e k w.if-e-ge-ZERO.true
      | else-e-ge-ZERO+then-e-k w ↦ ap (λ (x : ℕ). mul (pow 2 k) (term_of x)) w.self-is ∙ lowered_down e k w.if-e-ge-ZERO.false w.if-e-k.true
      | else-e-ge-ZERO+else-e-k w ↦ ap (λ (x : ℕ). mul (pow 2 k) (term_of x)) w.self-is ∙ lowered_around e k w.if-e-k.false c.requires
    ] in
    record { value = lowered ∙ c.self.view_is; small = term_lt c.if-e-ge-ZERO.self }
