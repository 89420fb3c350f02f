-- Pieces sent one after the other: what was sent after each.
use Rattle.std.proofs.Common.{◌≡◌, ℕ, ◌+◌, ◌-◌, ◌*◌, ◌/◌, ◌%◌, ◌^◌, ◌<◌, ◌≤◌, List, [], ◌∷◌, ◌++◌, length, get_or, take, sym, refl, ap, ◌∙◌, arith, length-append, length-take-le, get_or-take}
use Rattle.std.proofs.lemmas.List.{append_assoc, get_or-append-add, take_more}
use Rattle.signal.specs.Signal.{bits_of, cell, cells, field, pattern, pattern_next}
use Rattle.signal.specs.Inner.{level_before}
use Rattle.signal.proofs.Bits.{length_bits}
use Rattle.signal.proofs.Cells.{cells_end, cells_push, after_cells, length_cells}
use Rattle.signal.proofs.FieldBits.{length_highest, get_or_highest}
use Rattle.signal.proofs.Pattern.{length_pattern, pattern_more}

-- what a line shows of the TUI that were sent
pub sent_length : (line sent : List ℕ) (n : ℕ) → length line ≡ 548 → n ≤ 4384 → take n (bits_of line) ≡ sent → length sent ≡ n
sent_length line sent n long room e = sym (ap length e) ∙ length-take-le n (bits_of line) (omega (arith, length_bits line))

pub sent_tui : (line sent : List ℕ) (n i : ℕ) → take n (bits_of line) ≡ sent → i < n → get_or (bits_of line) i 0 ≡ get_or sent i 0
sent_tui line sent n i e h = sym (get_or-take n (bits_of line) i 0 h) ∙ ap (λ (l : List ℕ). get_or l i 0) e

-- after one more
pub sent_more : (was is base front more whole : List ℕ) → was ≡ base ++ front → is ≡ was ++ more → front ++ more ≡ whole → is ≡ base ++ whole
sent_more was is base front more whole before step joined =
    step ∙ ap (λ (l : List ℕ). l ++ more) before ∙ append_assoc base front more ∙ ap (λ (l : List ℕ). base ++ l) joined

-- one more cell of a field
pub sent_cell : (was is base : List ℕ) (k x bit : ℕ) → 1 ≤ length base → k < 16
    → was ≡ base ++ cells (level_before base (length base)) (take k (field x))
    → is ≡ was ++ cell (level_before was (length was)) bit
    → bit ≡ x / 2 ^ (15 - k) % 2
    → is ≡ base ++ cells (level_before base (length base)) (take (k + 1) (field x))
sent_cell was is base k x bit low h inv step b =
    let before = level_before base (length base) in
    let fs = take k (field x) in
    let some : length fs ≡ k = length-take-le k (field x) (omega (arith, length_highest 16 x)) in
    let long : length was ≡ length base + 8 * length fs = ap length inv ∙ length-append base (cells before fs) ∙ omega (arith, length_cells before fs) in
    let place : length was - 1 ≡ length base + 8 * length fs - 1 = omega arith in
    let level : level_before was (length was) ≡ cells_end before fs =
    ap (λ (l : List ℕ). get_or l (length was - 1) 0) inv ∙ ap (λ (n : ℕ). get_or (base ++ cells before fs) n 0) place
    ∙ after_cells base before fs (length base) refl low refl in
    let here : bit ≡ get_or (field x) k 0 = b ∙ sym (get_or_highest 16 x k h) in
    let next : cell (level_before was (length was)) bit ≡ cell (cells_end before fs) (get_or (field x) k 0) =
    ap (λ (n : ℕ). cell n bit) level ∙ ap (cell (cells_end before fs)) here in
    let more : cells before fs ++ cell (level_before was (length was)) bit ≡ cells before (take (k + 1) (field x)) =
    ap (λ (l : List ℕ). cells before fs ++ l) next ∙ sym (cells_push before fs (get_or (field x) k 0))
    ∙ ap (cells before) (sym (take_more (field x) k 0 (omega (arith, length_highest 16 x)))) in
    sent_more was is base (cells before fs) _ _ inv step more

-- one more bit of the pattern
pub sent_bit : (was is base : List ℕ) (k seed bit : ℕ) → was ≡ base ++ pattern seed k → is ≡ was ++ bit ∷ [] → bit ≡ pattern_next seed (pattern seed k) k
    → is ≡ base ++ pattern seed (k + 1)
sent_bit was is base k seed bit inv step b =
    sent_more was is base (pattern seed k) _ _ inv step (ap (λ (y : ℕ). pattern seed k ++ y ∷ []) b ∙ pattern_more seed k)

-- a bit of the pattern that was sent `by` TUI ago
pub pattern_back : (was base : List ℕ) (k seed by : ℕ) → was ≡ base ++ pattern seed k → by ≤ k → get_or was (length was - by) 0 ≡ get_or (pattern seed k) (k - by) 0
pattern_back was base k seed by inv h =
    let long : length was ≡ length base + k = ap length inv ∙ length-append base (pattern seed k) ∙ omega (arith, length_pattern seed k) in
    let place : length was - by ≡ length base + (k - by) = omega arith in
    ap (λ (n : ℕ). get_or was n 0) place ∙ ap (λ (l : List ℕ). get_or l (length base + (k - by)) 0) inv ∙ get_or-append-add base (pattern seed k) (k - by) 0
