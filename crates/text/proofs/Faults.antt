-- The first fault of a line, part by part and place by place.
use Rattle.std.proofs.Common.{◌≡◌, ℕ, zero, suc, ◌+◌, ◌≤◌, Bool, true, false, cond, List, [], ◌∷◌, ◌++◌, map, length, take, drop, Some, None, Option, sym, refl, ap, ◌∙◌, arith}
use Rattle.std.specs.Option.{option_or}
use Rattle.std.proofs.lemmas.List.{drop-drop}
use Rattle.std.proofs.lemmas.Bool.{eq-eqb}
use Rattle.text.specs.Text.{Column, just, stands, fault}
use Rattle.text.specs.declared.refusal.Fault.TheVariants.{At}

-- nothing is looked at past the columns
pub fault_take : (c m : ℕ) (ks : List Column) (bs : List ℕ) → length ks ≤ m → fault c ks (take m bs) ≡ fault c ks bs
unfolding fault
fault_take c m [] bs h = refl
fault_take c zero (k ∷ ks) bs h = absurd (omega arith)
fault_take c (suc m) (k ∷ ks) [] h = refl
fault_take c (suc m) (k ∷ ks) (b ∷ bs) h = ap (λ x. cond (stands k b) x (Some (At c))) (fault_take (c + 1) m ks bs (omega arith))

passes : {A : Type 0} (t : Bool) (c : A) (x y z : Option A) → x ≡ option_or y z → cond t x (Some c) ≡ option_or (cond t y (Some c)) z
passes true c x y z e = e
passes false c x y z e = refl

-- columns behind columns
pub fault_append : (c : ℕ) (ks ls : List Column) (bs : List ℕ)
    → fault c (ks ++ ls) bs ≡ option_or (fault c ks bs) (fault (c + length ks) ls (drop (length ks) bs))
unfolding fault
fault_append c [] ls bs = ap (λ x. fault x ls bs) (omega arith)
fault_append c (k ∷ ks) ls [] = refl
fault_append c (k ∷ ks) ls (b ∷ bs) =
    let e : c + 1 + length ks ≡ c + suc (length ks) = omega arith in
    passes (stands k b) (At c) _ _ _ (fault_append (c + 1) ks ls bs ∙ ap (λ x. option_or (fault (c + 1) ks bs) (fault x ls (drop (length ks) bs))) e)

or_assoc : {A : Type 0} (x y z : Option A) → option_or x (option_or y z) ≡ option_or (option_or x y) z
or_assoc (Some a) y z = refl
or_assoc None y z = refl

-- a line of two tokens, a mark behind each
pub fault_line : (c : ℕ) (ks ms ls ns : List Column) (bs : List ℕ)
    → option_or (option_or (option_or (fault c ks (take (length ks) bs)) (fault (c + length ks) ms (drop (length ks) bs)))
    (fault (c + length ks + length ms) ls (take (length ls) (drop (length ks + length ms) bs))))
    (fault (c + length ks + length ms + length ls) ns (drop (length ks + length ms + length ls) bs))
    ≡ fault c (ks ++ (ms ++ (ls ++ ns))) bs
fault_line c ks ms ls ns bs =
    let p = fault_append c ks (ms ++ (ls ++ ns)) bs in
    let q = fault_append (c + length ks) ms (ls ++ ns) (drop (length ks) bs) in
    let r = fault_append (c + length ks + length ms) ls ns (drop (length ms) (drop (length ks) bs)) in
    let d = drop-drop (length ms) (length ks) bs in
    let e = drop-drop (length ls) (length ks + length ms) bs in
    let t = fault_take c (length ks) ks bs (omega arith) in
    let u = fault_take (c + length ks + length ms) (length ls) ls (drop (length ks + length ms) bs) (omega arith) in
    let x = or_assoc (fault c ks bs) (fault (c + length ks) ms (drop (length ks) bs)) (fault (c + length ks + length ms) (ls ++ ns) (drop (length ms) (drop (length ks) bs))) in
    let y =
    or_assoc (option_or (fault c ks bs) (fault (c + length ks) ms (drop (length ks) bs))) (fault (c + length ks + length ms) ls (drop (length ks + length ms) bs))
    (fault (c + length ks + length ms + length ls) ns (drop (length ks + length ms + length ls) bs)) in
    cc

-- the same, where the parts of the line say their places
pub fault_parts : (ks ls : List Column) (bs xs ys : List ℕ) (c d i j : ℕ) → c ≡ 1 → xs ≡ take (length ks) bs → d ≡ length ks + 2 → ys ≡ take (length ls) (drop (length ks + 1) bs)
    → i + 1 ≡ c + length ks → j + 1 ≡ d + length ls
    → option_or (option_or (option_or (fault c ks xs) (fault (i + 1) (just 32 ∷ []) (drop i bs))) (fault d ls ys)) (fault (j + 1) (just 10 ∷ []) (drop j bs))
    ≡ fault 1 (ks ++ (just 32 ∷ (ls ++ (just 10 ∷ [])))) bs
fault_parts ks ls bs xs ys c d i j e x g y m n =
    let f = fault_line 1 ks (just 32 ∷ []) ls (just 10 ∷ []) bs in
    let a : 1 + length ks ≡ i + 1 = omega arith in
    let b : length ks ≡ i = omega arith in
    let o : 1 + length ks + 1 ≡ d = omega arith in
    let p : 1 + length ks + 1 + length ls ≡ j + 1 = omega arith in
    let q : length ks + 1 + length ls ≡ j = omega arith in
    cc

-- what is spelled out has no fault
spelled_out : (c : ℕ) (xs : List ℕ) → None ≡ fault c (map just xs) xs
unfolding fault
spelled_out c [] = refl
spelled_out c (x ∷ xs) = spelled_out (c + 1) xs ∙ ap (λ b. cond b (fault (c + 1) (map just xs) xs) (Some (At c))) (sym (eq-eqb x x refl))

pub fault_spelled : (c : ℕ) (xs bs : List ℕ) → bs ≡ xs → None ≡ fault c (map just xs) bs
fault_spelled c xs bs e = spelled_out c xs ∙ ap (fault c (map just xs)) (sym e)
