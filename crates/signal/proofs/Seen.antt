-- What the levels of a recording show of the marker and of one cell.
use Rattle.std.proofs.Common.{◌≡◌, ℕ, ◌+◌, ◌<◌, Bool, true, false, List, get_or, replicate, MatchBool, MatchOption, sym, refl, ap, ◌∙◌, subst, arith}
use Rattle.std.specs.Bool.{then_some}
use Rattle.std.proofs.lemmas.Bool.{true≢false}
use Rattle.signal.specs.Signal.{Stands, marker, turned, cell_end, cell}
use Rattle.signal.proofs.Standing.{stands_join, stands_left, stands_right, stands_level}

module _ (bits : List ℕ) (p : ℕ) where
  pub marker_seen : Stands (replicate 16 1) bits p → Stands (replicate 16 0) bits (p + 16) → Stands marker bits p
  unfolding marker
  marker_seen = stands_join bits (replicate 16 1) (replicate 16 0) p (p + 16) refl

  pub marker_ones : Stands marker bits p → Stands (replicate 16 1) bits p
  unfolding marker
  marker_ones = stands_left bits (replicate 16 1) (replicate 16 0) p

  pub marker_zeros : Stands marker bits p → Stands (replicate 16 0) bits (p + 16)
  unfolding marker
  marker_zeros = stands_right bits (replicate 16 1) (replicate 16 0) p (p + 16) refl

  -- turning by the difference of two levels leads from one to the other
  turned_back : (first second : ℕ) → first < 2 → second < 2 → turned first (turned first second) ≡ second
  turned_back first second h l = omega arith

  pub cell_seen : (before first second bit : ℕ) → first ≡ turned before 1 → second < 2 → bit ≡ turned first second
      → Stands (replicate 4 first) bits p → Stands (replicate 4 second) bits (p + 4) → Stands (cell before bit) bits p
  unfolding cell
  cell_seen before first second bit e h b left right =
      let same : second ≡ cell_end before bit = sym (turned_back first second (omega arith) h) ∙ ap (turned first) (sym b) ∙ ap (λ (x : ℕ). turned x bit) e in
      stands_join bits (replicate 4 (turned before 1)) (replicate 4 (cell_end before bit)) p (p + 4) refl
      (subst (λ (x : ℕ). Stands (replicate 4 x) bits p) e left) (subst (λ (x : ℕ). Stands (replicate 4 x) bits (p + 4)) same right)

  pub cell_first : (before bit : ℕ) → Stands (cell before bit) bits p → Stands (replicate 4 (turned before 1)) bits p
  unfolding cell
  cell_first before bit = stands_left bits (replicate 4 (turned before 1)) (replicate 4 (cell_end before bit)) p

  -- the second half has one level, that of its first TUI
  pub cell_second : (before bit : ℕ) → Stands (cell before bit) bits p → Stands (replicate 4 (get_or bits (p + 4) 0)) bits (p + 4)
  unfolding cell
  cell_second before bit s =
      let half = stands_right bits (replicate 4 (turned before 1)) (replicate 4 (cell_end before bit)) p (p + 4) refl s in
      let start : p + 4 + 0 ≡ p + 4 = omega arith in
      let level : get_or bits (p + 4) 0 ≡ cell_end before bit = ap (λ (k : ℕ). get_or bits k 0) (sym start) ∙ stands_level bits 4 (cell_end before bit) (p + 4) 0 half (omega arith) in
      subst (λ (x : ℕ). Stands (replicate 4 x) bits (p + 4)) (sym level) half

  pub cell_last : (before bit : ℕ) → Stands (cell before bit) bits p → get_or bits (p + 7) 0 ≡ cell_end before bit
  unfolding cell
  cell_last before bit s = s.places 7 (omega arith)

-- a test that decides more
pub when_weaker : (b : Bool) {P Q P' Q' : Type 0} → (P → P') → (Q → Q') → MatchBool b P Q → MatchBool b P' Q'
when_weaker true f g h = f h
when_weaker false f g h = g h

pub false_when : (b : Bool) (P : Type 0) {Q : Type 0} → b ≡ false → Q → MatchBool b P Q
false_when true P e q = absurd (true≢false e)
false_when false P e q = q

-- a value that stands where a test holds
pub then_some_when : {A : Type 0} (b : Bool) (x : A) (P : A → Type 0) (Q : Type 0) → MatchBool b (P x) Q → MatchOption (then_some b x) Q P
then_some_when true x P Q h = h
then_some_when false x P Q h = h
