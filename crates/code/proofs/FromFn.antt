-- Arrays that `array::from_fn` makes, by calls that leave the closure as it was.
use Rattle.std.proofs.Common.{◌≡◌, ℕ, zero, suc, ◌+◌, ◌<◌, ◌≤◌, ◌≢◌, List, get_or, sym, subst, arith}
use native.Mathlib.Decide.{ℕ_discrete}
use denote.Param.Members.{Mut, Called}
use Rattle.std.specs.Array.{IsFromFnResultFrom}

-- what the closure's answer for an index is, the element at that index is
module _ {F Y : Type 0} {g : Mut F (ℕ × Unit {0}) Y} {f : F} (P : ℕ → Y → Type 0) (acts : (i : ℕ) (y : Y) (q : F) → Called g f (i, tt) y q → (q ≡ f) × P i y) where
  pub filled_from : (ys : List Y) (i n k : ℕ) (d : Y) → IsFromFnResultFrom g f ys i n → i ≤ k → k < i + n → P k (get_or ys k d)
  filled_from ys i zero k d made low high = absurd (omega arith)
  filled_from ys i (suc n) k d made low high =
      let acted = acts i made.1 made.0 made.3 in
      elim (ℕ_discrete k i) [
        | yes e ↦
            subst (λ (j : ℕ). P j (get_or ys j d)) (sym e) (subst (P i) (sym (made.2.1 d)) acted.1)
        | no ne ↦
            let ne' : k ≢ i = ne in
            filled_from ys (i + 1) n k d (subst (λ (q : F). IsFromFnResultFrom g q ys (i + 1) n) acted.0 made.4) (omega arith) (omega arith)
      ]
