-- A place has at most one signal: what stands there says which fields, and which seed.
use Rattle.std.proofs.Common.{◌≡◌, ℕ, zero, suc, ◌+◌, ◌-◌, ◌*◌, ◌<◌, ◌≤◌, List, [], ◌∷◌, ◌++◌, length, get_or, take, drop, sym, refl, ap, ◌∙◌, subst, arith, take_at, drop_at}
use Rattle.std.proofs.lemmas.List.{append_cancel_left}
use Rattle.training.specs.declared.records.Control.{Control}
use Rattle.training.specs.declared.records.Status.{Status}
use Rattle.training.specs.Fields.{control_number, status_number}
use Rattle.training.proofs.Numbering.{control_below, status_below}
use Rattle.training.proofs.OneRecord.{same_control, same_status}
use Rattle.signal.specs.Signal.{Stands, marker, cell_end, cell, cells, highest_first, field, front, signal, IsSeed}
use Rattle.signal.specs.Calls.{Fronted, Broken}
use Rattle.signal.specs.Inner.{level_before, CellAt}
use Rattle.signal.proofs.Standing.{stands_left, stands_right, stands_same}
use Rattle.signal.proofs.Cells.{length_cell}
use Rattle.signal.proofs.Seen.{cell_last}
use Rattle.signal.proofs.FieldBits.{length_highest, same_highest}
use Rattle.signal.proofs.Carried.{marker_level}
use Rattle.signal.proofs.Patterned.{first_seed, one_seed, back_pattern}
use Rattle.signal.proofs.SignalParts.{length_fields, length_front, signal_front, signal_back, front_marker, front_cells}

-- a list of bits
abbrev Bits : List ℕ → Type 0
Bits [] = Unit {0}
Bits (x ∷ xs) = (x < 2) × Bits xs

highest_bits : (n x : ℕ) → Bits (highest_first n x)
unfolding highest_first
highest_bits zero x = tt
highest_bits (suc n) x = (omega arith, highest_bits n x)

bits_join : (xs ys : List ℕ) → Bits xs → Bits ys → Bits (xs ++ ys)
bits_join [] ys b c = c
bits_join (x ∷ xs) ys b c = (b.0, bits_join xs ys b.1 c)

-- equal cells carry equal bits
cells_same : (before : ℕ) (xs ys : List ℕ) → Bits xs → Bits ys → length xs ≡ length ys → cells before xs ≡ cells before ys → xs ≡ ys
unfolding cells cell
cells_same before [] [] b c l e = refl
cells_same before [] (y ∷ ys) b c l e = absurd (omega arith)
cells_same before (x ∷ xs) [] b c l e = absurd (omega arith)
cells_same before (x ∷ xs) (y ∷ ys) b c l e =
    let fifth : cell_end before x ≡ cell_end before y = ap (λ (l : List ℕ). get_or l 4 0) e in
    let hx = b.0 in
    let hy = c.0 in
    let same : x ≡ y = omega arith in
    let again : cell before x ++ cells (cell_end before x) ys ≡ cell before y ++ cells (cell_end before y) ys = ap (λ (v : ℕ). cell before v ++ cells (cell_end before v) ys) same in
    let rest = append_cancel_left (cell before x) (cells (cell_end before x) xs) (cells (cell_end before x) ys) (e ∙ sym again) in
    let tails = cells_same (cell_end before x) xs ys b.1 c.1 (omega arith) rest in
    ap (λ (v : ℕ). v ∷ xs) same ∙ ap (λ (l : List ℕ). y ∷ l) tails

same_fields : (a b c d : ℕ) → a < 65536 → b < 65536 → c < 65536 → d < 65536 → field a ++ field b ≡ field c ++ field d → (a ≡ c) × (b ≡ d)
same_fields a b c d ha hb hc hd e = (
  same_highest 16 a c ha hc (sym (take_at (field a) (field b) 16 (length_highest 16 a)) ∙ ap (take 16) e ∙ take_at (field c) (field d) 16 (length_highest 16 c)),
  same_highest 16 b d hb hd (sym (drop_at (field a) (field b) 16 (length_highest 16 a)) ∙ ap (drop 16) e ∙ drop_at (field c) (field d) 16 (length_highest 16 c)),
)

cut_marker : (a b c d : ℕ) → front a b ≡ front c d → cells 0 (field a ++ field b) ≡ cells 0 (field c ++ field d)
unfolding front
cut_marker a b c d e = append_cancel_left marker (cells 0 (field a ++ field b)) (cells 0 (field c ++ field d)) e

module _ (bits : List ℕ) where
  -- one pair of fields
  pub same_front : (p a b c d : ℕ) → Fronted bits p a b → Fronted bits p c d → (a ≡ c) × (b ≡ d)
  same_front p a b c d f g =
      let long = length_fields a b ∙ sym (length_fields c d) in
      let equal = stands_same bits (front a b) (front c d) p (length_front a b ∙ sym (length_front c d)) f.2 g.2 in
      same_fields a b c d f.0 f.1 g.0 g.1
      (cells_same 0 (field a ++ field b) (field c ++ field d) (bits_join (field a) (field b) (highest_bits 16 a) (highest_bits 16 b))
      (bits_join (field c) (field d) (highest_bits 16 c) (highest_bits 16 d)) long (cut_marker a b c d equal))

  abbrev pub SignalAt : Control → Status → ℕ → ℕ → Type 0
  SignalAt c s seed p = IsSeed seed × Stands (signal c s seed) bits p

  pub signal_fronted : (c : Control) (s : Status) (p : ℕ) → Stands (front (control_number c) (status_number s)) bits p → Fronted bits p (control_number c) (status_number s)
  signal_fronted c s p f = (control_below c, status_below s, f)

  -- one control record, one status record, one seed
  pub same_signal : (c d : Control) (s t : Status) (x y p : ℕ) → SignalAt c s x p → SignalAt d t y p → (c ≡ d) × (s ≡ t) × (x ≡ y)
  same_signal c d s t x y p f g =
      let left = signal_fronted c s p (signal_front bits p c s x f.1) in
      let right = signal_fronted d t p (signal_front bits p d t y g.1) in
      let fields = same_front p (control_number c) (status_number s) (control_number d) (status_number t) left right in
      let seeds = one_seed bits x y (p + 288) (omega (arith, f.0.1)) (omega (arith, g.0.1))
      (first_seed bits x (p + 288) (back_pattern bits x (p + 288) (signal_back bits p c s x f.1)))
      (first_seed bits y (p + 288) (back_pattern bits y (p + 288) (signal_back bits p d t y g.1))) in
      (same_control c d fields.0, same_status s t fields.1, seeds)

  -- each of the cells that stand there carries a bit
  each_carries : (hs : List ℕ) (before p k : ℕ) → 1 ≤ p → level_before bits p ≡ before → Stands (cells before hs) bits p → k < length hs → (bit : ℕ) × CellAt bits (p + 8 * k) bit
  unfolding cells
  each_carries [] before p k h e s l = absurd (omega arith)
  each_carries (b ∷ hs) before p zero h e s l =
      let first = stands_left bits (cell before b) (cells (cell_end before b) hs) p s in
      let z : p + 8 * 0 ≡ p = omega arith in
      (b, subst (λ (q : ℕ). CellAt bits q b) (sym z) (subst (λ (v : ℕ). Stands (cell v b) bits p) (sym e) first))
  each_carries (b ∷ hs) before p (suc k) h e s l =
      let first = stands_left bits (cell before b) (cells (cell_end before b) hs) p s in
      let eight : p + length (cell before b) ≡ p + 8 = omega (arith, length_cell before b) in
      let rest = stands_right bits (cell before b) (cells (cell_end before b) hs) p (p + 8) eight s in
      let seven : p + 8 - 1 ≡ p + 7 = omega arith in
      let next : level_before bits (p + 8) ≡ cell_end before b = ap (λ (j : ℕ). get_or bits j 0) seven ∙ cell_last bits p before b first in
      let later = each_carries hs (cell_end before b) (p + 8) k (omega arith) next rest (omega arith) in
      let at : p + 8 + 8 * k ≡ p + 8 * suc k = omega arith in
      (later.0, subst (λ (q : ℕ). CellAt bits q later.0) at later.1)

  -- where a front stands no cell is broken
  pub front_unbroken : (p control status : ℕ) → Stands (front control status) bits p → Broken bits p → ⊥
  front_unbroken p control status f broken =
      let k = broken.0 in
      let carried = each_carries (field control ++ field status) 0 (p + 32) k (omega arith) (marker_level bits p (front_marker bits p control status f)) (front_cells bits p control status f)
      (omega (arith, broken.1, length_fields control status)) in
      let before : p + 32 + 8 * k - 1 ≡ p + 31 + 8 * k = omega arith in
      broken.2 carried.0 (subst (λ (q : ℕ). Stands (cell (get_or bits q 0) carried.0) bits (p + 32 + 8 * k)) before carried.1)
