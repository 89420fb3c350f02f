-- The columns of a body and the bytes of a name, by the first of them that cannot stand.
use Rattle.std.proofs.Common.{◌≡◌, ℕ, zero, suc, ◌+◌, ◌<◌, ◌≤◌, Bool, true, false, not, cond, List, [], ◌∷◌, map, length, replicate, is_some, Some, None, Option, sym, refl, ap, ◌∙◌, arith, eqb}
use Rattle.std.specs.List.{zip, position_from}
use Rattle.text.specs.Text.{just, digit, hex_digit, stands, fault}
use Rattle.text.specs.Tokens.{fault_at}
use Rattle.text.specs.declared.refusal.Fault.{Fault}
use Rattle.text.specs.declared.refusal.Fault.TheVariants.{Ended, At}

turn : (t : Bool) (c k : ℕ) (few : Bool) (x : Option Fault) (y : Option ℕ) → x ≡ fault_at c few y → cond t x (Some (At (c + k))) ≡ fault_at c few (cond (not t) (Some k) y)
turn true c k few x y e = e
turn false c k few x y e = refl

step : (t : Bool) (c k : ℕ) (few : Bool) (f : ℕ → Option Fault) (y : Option ℕ) → f (c + (k + 1)) ≡ fault_at c few y → cond t (f (c + k + 1)) (Some (At (c + k))) ≡ fault_at c few (cond (not t) (Some k) y)
step t c k few f y e = let m : c + k + 1 ≡ c + (k + 1) = omega arith in turn t c k few (f (c + k + 1)) y (ap f m ∙ e)

ends : (c : ℕ) (few : Bool) → few ≡ true → Some Ended ≡ fault_at c few None
ends c few e = ap (λ t. cond t (Some Ended) None) (sym e)

passes : (c : ℕ) (few : Bool) → few ≡ false → None ≡ fault_at c few None
passes c few e = ap (λ t. cond t (Some Ended) None) (sym e)

pub digits_at : (c n k : ℕ) (bs : List ℕ) (few : Bool) → length bs ≤ n → (length bs < n → few ≡ true) → (n ≤ length bs → few ≡ false)
    → fault (c + k) (replicate n digit) bs ≡ fault_at c few (position_from (λ b. not (is_some (hex_digit b))) k bs)
unfolding fault
digits_at c zero k [] few h s l = passes c few (l (omega arith))
digits_at c zero k (b ∷ bs) few h s l = absurd (omega arith)
digits_at c (suc n) k [] few h s l = ends c few (s (omega arith))
digits_at c (suc n) k (b ∷ bs) few h s l =
    step (stands digit b) c k few (λ x. fault x (replicate n digit) bs) _ (digits_at c n (k + 1) bs few (omega arith) (λ m. s (omega arith)) (λ m. l (omega arith)))

pub name_at : (c k : ℕ) (xs bs : List ℕ) (few : Bool) → (length bs < length xs → few ≡ true) → (length xs ≤ length bs → few ≡ false)
    → fault (c + k) (map just xs) bs ≡ fault_at c few (position_from (λ p. not (eqb p.0 p.1)) k (zip bs xs))
unfolding fault
name_at c k [] [] few s l = passes c few (l (omega arith))
name_at c k [] (b ∷ bs) few s l = passes c few (l (omega arith))
name_at c k (x ∷ xs) [] few s l = ends c few (s (omega arith))
name_at c k (x ∷ xs) (b ∷ bs) few s l =
    step (eqb b x) c k few (λ y. fault y (map just xs) bs) _ (name_at c (k + 1) xs bs few (λ m. s (omega arith)) (λ m. l (omega arith)))

-- from the first byte on

pub digits_fault : (c n : ℕ) (bs : List ℕ) (few : Bool) (r : Option ℕ) (f : Option Fault) → f ≡ fault_at c few r → r ≡ position_from (λ b. not (is_some (hex_digit b))) 0 bs
    → length bs ≤ n → (length bs < n → few ≡ true) → (n ≤ length bs → few ≡ false) → f ≡ fault c (replicate n digit) bs
digits_fault c n bs few r f e p h s l =
    let z : c + 0 ≡ c = omega arith in
    e ∙ ap (fault_at c few) p ∙ sym (digits_at c n 0 bs few h s l) ∙ ap (λ x. fault x (replicate n digit) bs) z

pub name_fault : (c : ℕ) (xs bs : List ℕ) (few : Bool) (r : Option ℕ) (f : Option Fault) → f ≡ fault_at c few r → r ≡ position_from (λ p. not (eqb p.0 p.1)) 0 (zip bs xs)
    → (length bs < length xs → few ≡ true) → (length xs ≤ length bs → few ≡ false) → f ≡ fault c (map just xs) bs
name_fault c xs bs few r f e p s l =
    let z : c + 0 ≡ c = omega arith in
    e ∙ ap (fault_at c few) p ∙ sym (name_at c 0 xs bs few s l) ∙ ap (λ x. fault x (map just xs) bs) z
