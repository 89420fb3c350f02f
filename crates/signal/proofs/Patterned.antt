-- What the bits of a recording show of a seed, its pattern and the end zeros.
use Rattle.std.proofs.Common.{◌≡◌, ℕ, suc, ◌+◌, ◌-◌, ◌*◌, ◌/◌, ◌%◌, ◌<◌, ◌≤◌, List, [], ◌∷◌, length, get_or, replicate, sym, refl, ap, ◌∙◌, subst, arith}
use Rattle.signal.specs.Signal.{Stands, least_first, pattern, pattern_next, back}
use Rattle.signal.specs.Inner.{SumAt}
use Rattle.signal.proofs.Bits.{length_least, get_or_least, same_least}
use Rattle.signal.proofs.Pattern.{length_pattern, pattern_more, pattern_early, pattern_later, next_later}
use Rattle.signal.proofs.Standing.{stands_join, stands_left, stands_right, stands_same, one_stands}

module _ (bits : List ℕ) where
  -- a bit before the least bits of a number
  pub least_more : (n x b p : ℕ) → b < 2 → Stands (least_first n x) bits (p + 1) → get_or bits p 0 ≡ b → p < length bits → Stands (least_first (suc n) (x * 2 + b)) bits p
  unfolding least_first
  least_more n x b p small s e room =
      let two : (x * 2 + b) / 2 ≡ x = omega arith in
      let bit : (x * 2 + b) % 2 ≡ b = omega arith in
      let one = one_stands bits ((x * 2 + b) % 2) p room (e ∙ sym bit) in
      subst (λ (y : ℕ). Stands ((x * 2 + b) % 2 ∷ least_first n y) bits p) (sym two) (stands_join bits ((x * 2 + b) % 2 ∷ []) (least_first n x) p (p + 1) refl one s)

  -- the seed's bits are the first of its pattern
  pub seed_first : (seed p : ℕ) → Stands (least_first 11 seed) bits p → Stands (pattern seed 11) bits p
  seed_first seed p s =
      let long = length_pattern seed 11 in
      let eleven = length_least 11 seed in
      let w = s.within in
      record { within = omega arith; places = λ i h. let l : i < 11 = omega arith in s.places i (omega arith) ∙ get_or_least 11 seed i l ∙ sym (pattern_early seed 11 i l l) }

  pub first_seed : (seed p : ℕ) → Stands (pattern seed 4094) bits p → Stands (least_first 11 seed) bits p
  first_seed seed p s =
      let long = length_pattern seed 4094 in
      let eleven = length_least 11 seed in
      let w = s.within in
      record { within = omega arith; places = λ i h. let l : i < 11 = omega arith in s.places i (omega arith) ∙ pattern_early seed 4094 i (omega arith) l ∙ sym (get_or_least 11 seed i l) }

  -- a place has one seed
  pub one_seed : (x y p : ℕ) → x < 2048 → y < 2048 → Stands (least_first 11 x) bits p → Stands (least_first 11 y) bits p → x ≡ y
  one_seed x y p hx hy sx sy = same_least 11 x y hx hy (stands_same bits (least_first 11 x) (least_first 11 y) p (length_least 11 x ∙ sym (length_least 11 y)) sx sy)

  -- one more bit that is the sum of two before it
  pub pattern_grows : (seed p at : ℕ) → p + 11 ≤ at → at < length bits → Stands (pattern seed (at - p)) bits p → SumAt bits at → Stands (pattern seed (at + 1 - p)) bits p
  pattern_grows seed p at low room s e =
      let long = length_pattern seed (at - p) in
      let nine : at - 9 ≡ p + (at - p - 9) = omega arith in
      let eleven : at - 11 ≡ p + (at - p - 11) = omega arith in
      let fa = ap (λ (j : ℕ). get_or bits j 0) nine ∙ s.places (at - p - 9) (omega arith) in
      let fb = ap (λ (j : ℕ). get_or bits j 0) eleven ∙ s.places (at - p - 11) (omega arith) in
      let next : get_or bits at 0 ≡ pattern_next seed (pattern seed (at - p)) (at - p) =
      e ∙ ap (λ (y : ℕ). (y + get_or bits (at - 11) 0) % 2) fa ∙ ap (λ (y : ℕ). (get_or (pattern seed (at - p)) (at - p - 9) 0 + y) % 2) fb
      ∙ sym (next_later seed (at - p) (pattern seed (at - p)) (omega arith)) in
      let one = one_stands bits (pattern_next seed (pattern seed (at - p)) (at - p)) at room next in
      let more : at - p + 1 ≡ at + 1 - p = omega arith in
      subst (λ (l : List ℕ). Stands l bits p) (pattern_more seed (at - p) ∙ ap (pattern seed) more)
      (stands_join bits (pattern seed (at - p)) (pattern_next seed (pattern seed (at - p)) (at - p) ∷ []) p at (omega arith) s one)

  -- where the pattern of any seed stands, each later bit is such a sum
  pub sums_stand : (seed p at : ℕ) → p + 11 ≤ at → at < p + 4094 → Stands (pattern seed 4094) bits p → SumAt bits at
  sums_stand seed p at low high s =
      let long = length_pattern seed 4094 in
      let here : at ≡ p + (at - p) = omega arith in
      let nine : at - 9 ≡ p + (at - p - 9) = omega arith in
      let eleven : at - 11 ≡ p + (at - p - 11) = omega arith in
      let fv = ap (λ (j : ℕ). get_or bits j 0) here ∙ s.places (at - p) (omega arith) in
      let fa = ap (λ (j : ℕ). get_or bits j 0) nine ∙ s.places (at - p - 9) (omega arith) in
      let fb = ap (λ (j : ℕ). get_or bits j 0) eleven ∙ s.places (at - p - 11) (omega arith) in
      fv ∙ pattern_later seed 4094 (at - p) (omega arith) (omega arith)
      ∙ ap (λ (y : ℕ). (y + get_or (pattern seed 4094) (at - p - 11) 0) % 2) (sym fa) ∙ ap (λ (y : ℕ). (get_or bits (at - 9) 0 + y) % 2) (sym fb)

  -- the pattern and the end zeros
  pub back_seen : (seed p : ℕ) → Stands (pattern seed 4094) bits p → Stands (replicate 2 0) bits (p + 4094) → Stands (back seed) bits p
  unfolding back
  back_seen seed p = stands_join bits (pattern seed 4094) (replicate 2 0) p (p + 4094) (omega (arith, length_pattern seed 4094))

  pub back_pattern : (seed p : ℕ) → Stands (back seed) bits p → Stands (pattern seed 4094) bits p
  unfolding back
  back_pattern seed p = stands_left bits (pattern seed 4094) (replicate 2 0) p

  pub back_zeros : (seed p : ℕ) → Stands (back seed) bits p → Stands (replicate 2 0) bits (p + 4094)
  unfolding back
  back_zeros seed p = stands_right bits (pattern seed 4094) (replicate 2 0) p (p + 4094) (omega (arith, length_pattern seed 4094))
