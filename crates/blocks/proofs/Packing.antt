-- Joined numbers, one more at a time.
use Rattle.std.proofs.Common.{◌≡◌, ℕ, ◌+◌, ◌*◌, ◌^◌, ◌<◌, ◌≤◌, Bool, true, false, List, [], ◌∷◌, ◌++◌, length, take, set, sym, refl, ap, ◌∙◌, arith, length-set}
use Rattle.std.proofs.lemmas.List.{take_more_set, take_all}
use Rattle.words.specs.Raw.{Raw, Valid, AllValid}
use Rattle.blocks.specs.Packed.{onto, packed}
use Rattle.blocks.specs.Filling.{above, with_rest, Put}
use Rattle.blocks.specs.declared.writing.Writer.{Writer}

pub onto_push : (w : ℕ) (xs : List ℕ) (y t : ℕ) → onto w (xs ++ y ∷ []) t ≡ onto w xs (y + 2 ^ w * t)
onto_push w [] y t = refl
onto_push w (x ∷ xs) y t = ap (λ (n : ℕ). x + 2 ^ w * n) (onto_push w xs y t)

pub onto_set : (w : ℕ) (xs : List ℕ) (j y t : ℕ) → j < length xs → onto w (take (j + 1) (set xs j y)) t ≡ onto w (take j xs) (y + 2 ^ w * t)
onto_set w xs j y t h = ap (λ (l : List ℕ). onto w l t) (take_more_set xs j y h) ∙ onto_push w (take j xs) y t

pub fill : (limbs : List ℕ) (j limb total : ℕ) (from to : Writer) (w : Raw) (rest : List Raw)
    → j < length limbs → onto 64 (take j limbs) (with_rest from (w ∷ rest)) ≡ total → Put w from limb to
    → onto 64 (take (j + 1) (set limbs j limb)) (with_rest to rest) ≡ total
fill limbs j limb total from to w rest h e p =
    onto_set 64 limbs j limb (with_rest to rest) h ∙ ap (onto 64 (take j limbs)) (sym (p.places rest)) ∙ e

none_above : (cutting : Bool) → above cutting [] ≡ 0
none_above true = refl
none_above false = refl

pub filled : (limbs : List ℕ) (writer : Writer) (total : ℕ) → length limbs ≡ 5 → onto 64 (take 4 limbs) (with_rest writer []) ≡ total → packed 64 (set limbs 4 writer.acc) ≡ total
filled limbs writer total n e =
    let z = none_above writer.cutting in
    let s : writer.acc + 2 ^ 64 * 0 ≡ with_rest writer [] = omega arith in
    let l : length (set limbs 4 writer.acc) ≤ 5 = rw length-set (omega arith) in
    ap (packed 64) (sym (take_all 5 (set limbs 4 writer.acc) l)) ∙ onto_set 64 limbs 4 writer.acc 0 (omega arith) ∙ ap (onto 64 (take 4 limbs)) s ∙ e

pub valid_push : (ws : List Raw) (w : Raw) → AllValid ws → Valid w → AllValid (ws ++ w ∷ [])
valid_push [] w v h = (h, tt)
valid_push (x ∷ xs) w v h = (v.0, valid_push xs w v.1 h)
