-- Bounds of the numbers that digits write.
use Rattle.std.proofs.Common.{◌≡◌, ℕ, ◌+◌, ◌-◌, ◌*◌, ◌^◌, ◌<◌, ◌≤◌, Bool, true, false, cond, ◌&&◌, leb, List, [], ◌∷◌, ◌++◌, length, Bor, Iter, Some, None, unwrap_or, sym, refl, ap, subst, zero-lt-suc, pow-suc, add-one, arith}
use Rattle.std.proofs.iter.Yields.{fronts}
use Rattle.std.specs.Iterator.{Yields}
use native.Mathlib.Nat.{pow-le-pow_right}
use Rattle.std.proofs.lemmas.Bool.Decides.{nat_tests}
use Rattle.std.proofs.lemmas.List.{length-append}
use Rattle.text.specs.Text.{hex_digit}

digit_cases : (s t : Bool) (x y : ℕ) → (s ≡ true → x < 16) → (t ≡ true → y < 16) → unwrap_or (cond s (Some x) (cond t (Some y) None)) 0 < 16
digit_cases true t x y h k = h refl
digit_cases false true x y h k = k refl
digit_cases false false x y h k = omega arith

pub digit_lt : (b : ℕ) → unwrap_or (hex_digit b) 0 < 16
digit_lt b = digit_cases (leb 48 b && leb b 57) (leb 97 b && leb b 102) (b - 48) (b - 87) (λ e. grind (arith, nat_tests)) (λ e. grind (arith, nat_tests))

-- room for one more digit
pub value_room : (v i : ℕ) → v < 16 ^ i → i < 16 → v < 2 ^ 60
value_room v i h l =
    let m : i ≤ 15 = omega arith in
    let p : 16 ^ i ≤ 16 ^ 15 = pow-le-pow_right (zero-lt-suc 15) m in
    omega arith

pub value_more : (v i d : ℕ) → v < 16 ^ i → d < 16 → v * 16 + d < 16 ^ (i + 1)
value_more v i d h l = rw (add-one, pow-suc) (omega arith)

-- so many digits were taken from the front
pub taken : (xs : List (Bor ℕ)) (s t : Iter ℕ) → Yields fronts s xs t → length xs + length t.rest.now ≡ length s.rest.now
taken [] s t e = let m = ap (λ i. length i.rest.now) e in omega arith
taken (x ∷ xs) s t y =
    let m = taken xs y.0 t y.2 in
    let e = ap length y.1 in
    omega arith

pub one_more : (xs : List (Bor ℕ)) (x : Bor ℕ) (v w : ℕ) → v < 16 ^ length xs → w ≡ v * 16 + unwrap_or (hex_digit x.now) 0 → w < 16 ^ length (xs ++ (x ∷ []))
one_more xs x v w h e =
    let d = digit_lt x.now in
    let m = value_more v (length xs) (unwrap_or (hex_digit x.now) 0) h d in
    let l : length xs + 1 ≡ length (xs ++ (x ∷ [])) = sym (length-append xs (x ∷ [])) in
    subst (λ k. w < 16 ^ k) l (subst (λ y. y < 16 ^ (length xs + 1)) (sym e) m)

pub room_left : (xs : List (Bor ℕ)) (s t u : Iter ℕ) (x : Bor ℕ) (v : ℕ) (bs : List ℕ) → s.rest.now ≡ bs → length bs ≤ 16 → Yields fronts s xs t → t.rest.now ≡ x.now ∷ u.rest.now
    → v < 16 ^ length xs → v < 2 ^ 60
room_left xs s t u x v bs f l y e j =
    let n = taken xs s t y in
    let a = ap length f in
    let b = ap length e in
    value_room v (length xs) j (omega arith)
