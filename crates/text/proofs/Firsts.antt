-- No answer depends on more than the first bytes.
use Rattle.std.proofs.Common.{◌≡◌, ℕ, zero, suc, ◌+◌, ◌*◌, ◌<◌, cond, eqb, List, [], ◌∷◌, length, get_or, take, drop, refl, ap, ◌∙◌, arith}
use Rattle.std.proofs.lemmas.List.{length-take, take-take, drop-take, get_or-take, take_all}
use Rattle.words.specs.Raw.{data_word, control_word}
use Rattle.text.specs.Text.{fault, names_line, row_line, row_word, value, judged, row_answer, then, rows, behind_names}
use Rattle.text.specs.Laws.{Early}
use Rattle.text.proofs.Faults.{fault_take}
use Rattle.text.proofs.Steps.{rows_step}

-- a row and its word stand in the first 19 bytes
row_early : (r m : ℕ) (bs : List ℕ) → row_answer r (take (19 + m) bs) ≡ row_answer r bs
row_early r m bs =
    let f = fault_take 1 (19 + m) row_line bs (omega arith) in
    let k = get_or-take (19 + m) bs 0 0 (omega arith) in
    let d : drop 2 (take (19 + m) bs) ≡ take (17 + m) (drop 2 bs) = let e : 19 + m ≡ 2 + (17 + m) = omega arith in ap (λ n. drop 2 (take n bs)) e ∙ drop-take 2 (17 + m) bs in
    let t : take 16 (drop 2 (take (19 + m) bs)) ≡ take 16 (drop 2 bs) = ap (take 16) d ∙ take-take 16 (17 + m) (drop 2 bs) (omega arith) in
    ap (λ o. judged r o (row_word (take (19 + m) bs))) f
    ∙ ap (λ x. judged r (fault 1 row_line bs) (cond (eqb x 100) (data_word (value (take 16 (drop 2 (take (19 + m) bs))))) (control_word (value (take 16 (drop 2 (take (19 + m) bs))))))) k
    ∙ ap (λ xs. judged r (fault 1 row_line bs) (cond (eqb (get_or bs 0 0) 100) (data_word (value xs)) (control_word (value xs)))) t

rows_early : (n r : ℕ) (bs : List ℕ) → rows r n (take (19 * n + 1) bs) ≡ rows r n bs
unfolding rows
rows_early zero r [] = refl
rows_early zero r (b ∷ bs) = refl
rows_early (suc n) r [] = ap (rows r (suc n)) (take_all (19 * suc n + 1) [] (omega arith))
rows_early (suc n) r (b ∷ bs) =
    let m : ℕ = 19 * n + 1 in
    let e : 19 * suc n + 1 ≡ 19 + m = omega arith in
    let xs : List ℕ = take (19 + m) (b ∷ bs) in
    let some : 0 < length xs = let l = length-take (19 + m) (b ∷ bs) in omega arith in
    ap (λ k. rows r (suc n) (take k (b ∷ bs))) e ∙ rows_step r n xs some
    ∙ ap (λ a. then a (rows (r + 1) n (drop 19 xs))) (row_early (r + 1) m (b ∷ bs))
    ∙ ap (λ ys. then (row_answer (r + 1) (b ∷ bs)) (rows (r + 1) n ys)) (drop-take 19 m (b ∷ bs))
    ∙ ap (then (row_answer (r + 1) (b ∷ bs))) (rows_early n (r + 1) (drop 19 (b ∷ bs)))

pub early : Early
early bs =
    ap (λ o. behind_names o (rows 0 80 (drop 10 (take 1531 bs)))) (fault_take 1 1531 names_line bs (omega arith))
    ∙ ap (λ xs. behind_names (fault 1 names_line bs) (rows 0 80 xs)) (drop-take 10 1521 bs)
    ∙ ap (behind_names (fault 1 names_line bs)) (rows_early 80 0 (drop 10 bs))
