-- Cells one after the other.
use Rattle.std.proofs.Common.{◌≡◌, ℕ, suc, ◌+◌, ◌-◌, ◌*◌, ◌<◌, List, [], ◌∷◌, ◌++◌, length, get_or, replicate, sym, refl, ap, ◌∙◌, arith, length-append}
use Rattle.std.proofs.lemmas.List.{append-nil, append_assoc, get_or-append-add}
use Rattle.signal.specs.Signal.{turned, cell_end, cell, cells}

-- the last TUI of the cells
abbrev pub cells_end : ℕ → List ℕ → ℕ
cells_end before [] = before
cells_end before (bit ∷ bits) = cells_end (cell_end before bit) bits

pub length_cell : (before bit : ℕ) → length (cell before bit) ≡ 8
unfolding cell
length_cell before bit = refl

pub length_cells : (before : ℕ) (bits : List ℕ) → length (cells before bits) ≡ 8 * length bits
unfolding cells
length_cells before [] = refl
length_cells before (bit ∷ bits) =
    let one = length_cell before bit in
    let rest = length_cells (cell_end before bit) bits in
    length-append (cell before bit) (cells (cell_end before bit) bits) ∙ omega arith

pub cells_join : (before : ℕ) (xs ys : List ℕ) → cells before (xs ++ ys) ≡ cells before xs ++ cells (cells_end before xs) ys
unfolding cells
cells_join before [] ys = refl
cells_join before (x ∷ xs) ys =
    ap (λ (l : List ℕ). cell before x ++ l) (cells_join (cell_end before x) xs ys)
    ∙ sym (append_assoc (cell before x) (cells (cell_end before x) xs) (cells (cells_end (cell_end before x) xs) ys))

pub cells_push : (before : ℕ) (xs : List ℕ) (y : ℕ) → cells before (xs ++ y ∷ []) ≡ cells before xs ++ cell (cells_end before xs) y
unfolding cells
cells_push before xs y =
    cells_join before xs (y ∷ []) ∙ ap (λ (l : List ℕ). cells before xs ++ l) (append-nil (cell (cells_end before xs) y))

-- the last TUI of a list that ends in a cell
after_cell : (xs : List ℕ) (before bit n : ℕ) → length xs ≡ n → get_or (xs ++ cell before bit) (n + 7) 0 ≡ cell_end before bit
unfolding cell
after_cell xs before bit n e = ap (λ (k : ℕ). get_or (xs ++ cell before bit) (k + 7) 0) (sym e) ∙ get_or-append-add xs (cell before bit) 7 0

-- the last TUI of a list, once cells are sent after it
pub after_cells : (xs : List ℕ) (before : ℕ) (bits : List ℕ) (n : ℕ) → length xs ≡ n → 0 < n → get_or xs (n - 1) 0 ≡ before
    → get_or (xs ++ cells before bits) (n + 8 * length bits - 1) 0 ≡ cells_end before bits
unfolding cells
after_cells xs before [] n e h last =
    ap (λ (l : List ℕ). get_or l (n + 0 - 1) 0) (append-nil xs) ∙ (let z : n + 0 - 1 ≡ n - 1 = omega arith in ap (λ (k : ℕ). get_or xs k 0) z ∙ last)
after_cells xs before (bit ∷ bits) n e h last =
    let more : length (xs ++ cell before bit) ≡ n + 8 = length-append xs (cell before bit) ∙ omega (arith, length_cell before bit) in
    let seven : n + 8 - 1 ≡ n + 7 = omega arith in
    let next : get_or (xs ++ cell before bit) (n + 8 - 1) 0 ≡ cell_end before bit = ap (λ (k : ℕ). get_or (xs ++ cell before bit) k 0) seven ∙ after_cell xs before bit n e in
    let place : n + 8 * suc (length bits) - 1 ≡ n + 8 + 8 * length bits - 1 = omega arith in
    ap (λ (k : ℕ). get_or (xs ++ (cell before bit ++ cells (cell_end before bit) bits)) k 0) place
    ∙ ap (λ (l : List ℕ). get_or l (n + 8 + 8 * length bits - 1) 0) (sym (append_assoc xs (cell before bit) (cells (cell_end before bit) bits)))
    ∙ after_cells (xs ++ cell before bit) (cell_end before bit) bits (n + 8) more (omega arith) next

pub cell_from : (before level first second bit : ℕ) → level ≡ before → first ≡ turned level 1 → second ≡ turned first bit
    → replicate 4 first ++ replicate 4 second ≡ cell before bit
unfolding cell
cell_from before level first second bit p q r =
    let f : first ≡ turned before 1 = q ∙ ap (λ (x : ℕ). turned x 1) p in
    let s : second ≡ cell_end before bit = r ∙ ap (λ (x : ℕ). turned x bit) f in
    ap (λ (x : ℕ). replicate 4 x ++ replicate 4 second) f ∙ ap (λ (x : ℕ). replicate 4 (turned before 1) ++ replicate 4 x) s
