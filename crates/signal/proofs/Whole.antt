-- The pieces of a signal, sent in their order, make the signal.
use Rattle.std.proofs.Common.{◌≡◌, ℕ, ◌+◌, ◌-◌, ◌*◌, List, ◌++◌, length, get_or, sym, refl, ap, ◌∙◌, arith, length-append}
use Rattle.std.proofs.lemmas.List.{append_assoc}
use Rattle.signal.specs.Signal.{marker, cells, field, front}
use Rattle.signal.specs.Inner.{level_before}
use Rattle.signal.proofs.Cells.{cells_end, cells_join, after_cells, length_cells}

pub length_marker : length marker ≡ 32
unfolding marker
length_marker = refl

pub marker_end : get_or marker 31 0 ≡ 0
unfolding marker
marker_end = refl

pub front_cells : (control status : ℕ) → front control status ≡ (marker ++ cells 0 (field control)) ++ cells (cells_end 0 (field control)) (field status)
unfolding front
front_cells control status =
    ap (λ (l : List ℕ). marker ++ l) (cells_join 0 (field control) (field status))
    ∙ sym (append_assoc marker (cells 0 (field control)) (cells (cells_end 0 (field control)) (field status)))

-- the level after what was sent
abbrev last : List ℕ → ℕ
last sent = level_before sent (length sent)

module _ (control status : ℕ) (s2 s3 s4 : List ℕ) where
  controlled : s2 ≡ marker → s3 ≡ s2 ++ cells (last s2) (field control) → s3 ≡ marker ++ cells 0 (field control)
  controlled p q =
      let place : length marker - 1 ≡ 31 = omega (arith, length_marker) in
      let level : last s2 ≡ 0 = ap last p ∙ ap (λ (k : ℕ). get_or marker k 0) place ∙ marker_end in
      q ∙ ap (λ (l : List ℕ). l ++ cells (last s2) (field control)) p ∙ ap (λ (n : ℕ). marker ++ cells n (field control)) level

  pub fronted : s2 ≡ marker → s3 ≡ s2 ++ cells (last s2) (field control) → s4 ≡ s3 ++ cells (last s3) (field status) → s4 ≡ front control status
  fronted m c q =
      let p = controlled m c in
      let long = length-append marker (cells 0 (field control)) in
      let place : length (marker ++ cells 0 (field control)) - 1 ≡ 32 + 8 * length (field control) - 1 = omega (arith, length_marker, length_cells 0 (field control)) in
      let level : last s3 ≡ cells_end 0 (field control) =
      ap last p ∙ ap (λ (k : ℕ). get_or (marker ++ cells 0 (field control)) k 0) place
      ∙ after_cells marker 0 (field control) 32 length_marker (omega arith) marker_end in
      q ∙ ap (λ (l : List ℕ). l ++ cells (last s3) (field status)) p
      ∙ ap (λ (n : ℕ). (marker ++ cells 0 (field control)) ++ cells n (field status)) level ∙ sym (front_cells control status)
