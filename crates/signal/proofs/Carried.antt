-- What the cells of a recording carry: one more bit of a field, and the two fields after a marker.
use Rattle.std.proofs.Common.{◌≡◌, ℕ, suc, ◌+◌, ◌-◌, ◌*◌, ◌<◌, ◌≤◌, List, [], ◌∷◌, ◌++◌, length, get_or, sym, refl, ap, ◌∙◌, subst, add-one, arith, length-append}
use Rattle.signal.specs.Signal.{Stands, marker, cell_end, cell, cells, field, highest_first}
use Rattle.signal.specs.Calls.{Broken, Fronted}
use Rattle.signal.specs.Inner.{level_before, CellAt, FieldBroken, FieldAt}
use Rattle.signal.proofs.Standing.{stands_join, stands_left, stands_right}
use Rattle.signal.proofs.Cells.{cells_end, length_cell, length_cells, cells_push}
use Rattle.signal.proofs.Seen.{cell_last}
use Rattle.signal.proofs.FieldBits.{length_highest, highest_push}
use Rattle.signal.proofs.Whole.{length_marker, marker_end, front_cells}

module _ (bits : List ℕ) where
  -- the level after cells
  pub level_after : (hs : List ℕ) (before p : ℕ) → 1 ≤ p → level_before bits p ≡ before → Stands (cells before hs) bits p
      → level_before bits (p + 8 * length hs) ≡ cells_end before hs
  unfolding cells
  level_after [] before p h e s = let z : p + 0 ≡ p = omega arith in ap (level_before bits) z ∙ e
  level_after (b ∷ hs) before p h e s =
      let first = stands_left bits (cell before b) (cells (cell_end before b) hs) p s in
      let eight : p + length (cell before b) ≡ p + 8 = omega (arith, length_cell before b) in
      let rest = stands_right bits (cell before b) (cells (cell_end before b) hs) p (p + 8) eight s in
      let seven : p + 8 - 1 ≡ p + 7 = omega arith in
      let next : level_before bits (p + 8) ≡ cell_end before b = ap (λ (k : ℕ). get_or bits k 0) seven ∙ cell_last bits p before b first in
      let place : p + 8 * suc (length hs) ≡ p + 8 + 8 * length hs = omega arith in
      ap (level_before bits) place ∙ level_after hs (cell_end before b) (p + 8) (omega arith) next rest

  -- one more bit of a field
  pub carried_more : (p k x b : ℕ) → 1 ≤ p → b < 2
      → Stands (cells (level_before bits p) (highest_first k x)) bits p → CellAt bits (p + 8 * k) b
      → Stands (cells (level_before bits p) (highest_first (k + 1) (x * 2 + b))) bits p
  carried_more p k x b h small s one =
      let before = level_before bits p in
      let hs = highest_first k x in
      let long = length_highest k x in
      let here : p + 8 * length hs ≡ p + 8 * k = omega arith in
      let level : level_before bits (p + 8 * k) ≡ cells_end before hs = ap (level_before bits) (sym here) ∙ level_after hs before p h refl s in
      let after : p + length (cells before hs) ≡ p + 8 * k = omega (arith, length_cells before hs) in
      let both = stands_join bits (cells before hs) (cell (cells_end before hs) b) p (p + 8 * k) after s (subst (λ (n : ℕ). Stands (cell n b) bits (p + 8 * k)) level one) in
      let same : cells before hs ++ cell (cells_end before hs) b ≡ cells before (highest_first (k + 1) (x * 2 + b)) =
      sym (cells_push before hs b) ∙ ap (cells before) (sym (highest_push k x b small)) ∙ ap (λ (n : ℕ). cells before (highest_first n (x * 2 + b))) (sym (add-one k)) in
      subst (λ (l : List ℕ). Stands l bits p) same both

  pub marker_level : (start : ℕ) → Stands marker bits start → level_before bits (start + 32) ≡ 0
  marker_level start m =
      let at : start + 32 - 1 ≡ start + 31 = omega arith in
      ap (λ (k : ℕ). get_or bits k 0) at ∙ m.places 31 (omega (arith, length_marker)) ∙ marker_end

  -- both fields after the marker
  pub fronted : (start control status : ℕ) → Stands marker bits start → FieldAt bits (start + 32) control → FieldAt bits (start + 160) status
      → Fronted bits start control status
  fronted start control status m c s =
      let level = marker_level start m in
      let cs : Stands (cells 0 (field control)) bits (start + 32) = subst (λ (n : ℕ). Stands (cells n (field control)) bits (start + 32)) level c.1 in
      let sixteen = length_highest 16 control in
      let place : start + 32 + 8 * length (field control) ≡ start + 160 = omega arith in
      let next : level_before bits (start + 160) ≡ cells_end 0 (field control) =
      ap (level_before bits) (sym place) ∙ level_after (field control) 0 (start + 32) (omega arith) level cs in
      let ss = subst (λ (n : ℕ). Stands (cells n (field status)) bits (start + 160)) next s.1 in
      let first = stands_join bits marker (cells 0 (field control)) start (start + 32) (omega (arith, length_marker)) m cs in
      let long : start + length (marker ++ cells 0 (field control)) ≡ start + 160 = (let w = first.within in let a = length-append marker (cells 0 (field control)) in omega (arith, length_marker, length_cells 0 (field control))) in
      let both = stands_join bits (marker ++ cells 0 (field control)) (cells (cells_end 0 (field control)) (field status)) start (start + 160) long first ss in
      (c.0, s.0, subst (λ (l : List ℕ). Stands l bits start) (sym (front_cells control status)) both)

  -- a broken cell of either field is one of the 32
  broken_at : (start p k j : ℕ) → j < 32 → p + 8 * k ≡ start + 32 + 8 * j → ((bit : ℕ) → CellAt bits (p + 8 * k) bit → ⊥) → Broken bits start
  broken_at start p k j h e none =
      let before : start + 32 + 8 * j - 1 ≡ start + 31 + 8 * j = omega arith in
      (j, h, λ bit s. none bit (rw (e, before) s))

  pub broken_control : (start : ℕ) → FieldBroken bits (start + 32) → Broken bits start
  broken_control start f = broken_at start (start + 32) f.0 f.0 (omega (arith, f.1)) refl f.2

  pub broken_status : (start : ℕ) → FieldBroken bits (start + 160) → Broken bits start
  broken_status start f = broken_at start (start + 160) f.0 (f.0 + 16) (omega (arith, f.1)) (omega arith) f.2
