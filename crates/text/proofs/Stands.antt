-- What a line without a fault looks like.
use Rattle.std.proofs.Common.{◌≡◌, ℕ, zero, suc, ◌+◌, ◌^◌, ◌<◌, ◌≤◌, Bool, true, false, cond, ◌⊎◌, List, [], ◌∷◌, ◌++◌, map, length, take, drop, replicate, Some, None, Option, sym, refl, ap, ◌∙◌, subst, inl, inr, append_assoc, arith}
use Rattle.std.proofs.lemmas.Bool.{eqb-true}
use Rattle.std.proofs.lemmas.Bool.Decides.{nat_tests}
use Rattle.std.proofs.lemmas.List.{length-take-le, take-append-drop, drop-drop}
use Rattle.words.specs.Raw.{body}
use Rattle.text.specs.Text.{Column, just, letter, digit, stands, fault, row_line, row_word, value}
use Rattle.text.specs.Laws.{hex, row_of}
use Rattle.text.proofs.Hexadecimal.{AllDigits, hex_onto, value_lt}
use Rattle.text.specs.declared.refusal.Fault.{Fault}
use Rattle.text.specs.declared.refusal.Fault.TheVariants.{Ended, At}

some_none : (f : Fault) → Some f ≡ None → ⊥
some_none f e = let z : ◌≡◌ {A = ℕ} 0 1 = cc in omega arith

stood : (t : Bool) (c : ℕ) (x : Option Fault) → cond t x (Some (At c)) ≡ None → (t ≡ true) × (x ≡ None)
stood true c x e = (refl, e)
stood false c x e = absurd (some_none (At c) e)

-- one column
pub record Stood (c : ℕ) (k : Column) (ks : List Column) (bs : List ℕ) : Type 0 where
  pub first : ℕ
  pub rest : List ℕ
  pub is : bs ≡ first ∷ rest
  pub may : stands k first ≡ true
  pub behind : fault (c + 1) ks rest ≡ None

pub first_stands : (c : ℕ) (k : Column) (ks : List Column) (bs : List ℕ) → fault c (k ∷ ks) bs ≡ None → Stood c k ks bs
unfolding fault
first_stands c k ks [] e = absurd (some_none Ended e)
first_stands c k ks (b ∷ bs) e =
    let s = stood (stands k b) c (fault (c + 1) ks bs) e in
    record { first = b; rest = bs; is = refl; may = s.0; behind = s.1 }

-- columns of certain bytes
pub spelled_stands : (c : ℕ) (xs bs : List ℕ) → fault c (map just xs) bs ≡ None → xs ++ drop (length xs) bs ≡ bs
spelled_stands c [] bs e = refl
spelled_stands c (x ∷ xs) bs e =
    let s = first_stands c (just x) (map just xs) bs e in
    let i = spelled_stands (c + 1) xs s.rest s.behind in
    let h = eqb-true s.first x s.may in
    ap (λ ys. x ∷ (xs ++ drop (suc (length xs)) ys)) s.is ∙ ap (λ ys. x ∷ ys) i ∙ ap (λ b. b ∷ s.rest) (sym h) ∙ sym s.is

-- columns of digits
pub record DigitsStood (c n : ℕ) (ks : List Column) (bs : List ℕ) : Type 0 where
  pub enough : n ≤ length bs
  pub digits : AllDigits (take n bs)
  pub behind : fault (c + n) ks (drop n bs) ≡ None

pub digits_stand : (c n : ℕ) (ks : List Column) (bs : List ℕ) → fault c (replicate n digit ++ ks) bs ≡ None → DigitsStood c n ks bs
unfolding fault
digits_stand c zero ks bs e = record { enough = omega arith; digits = tt; behind = ap (λ x. fault x ks bs) (omega arith) ∙ e }
digits_stand c (suc n) ks [] e = absurd (some_none Ended e)
digits_stand c (suc n) ks (b ∷ bs) e =
    let s = stood (stands digit b) c (fault (c + 1) (replicate n digit ++ ks) bs) e in
    let i = digits_stand (c + 1) n ks bs s.1 in
    let a : c + suc n ≡ c + 1 + n = omega arith in
    record { enough = let h = i.enough in omega arith; digits = (s.0, i.digits); behind = ap (λ x. fault x ks (drop n bs)) a ∙ i.behind }

-- a whole row is the row of its word

letter_stands : (b : ℕ) → stands letter b ≡ true → (b ≡ 100) ⊎ (b ≡ 99)
letter_stands b e = grind (arith, nat_tests)

pub record WholeRow (bs : List ℕ) : Type 0 where
  pub printed : row_of (row_word bs) ++ drop 19 bs ≡ bs
  pub small : body (row_word bs) < 2 ^ 64

-- columns 3 to 19 put together again
tail_again : (v : ℕ) (ds : List ℕ) → hex 16 v ≡ take 16 ds → fault 19 (just 10 ∷ []) (drop 16 ds) ≡ None → (hex 16 v ++ (10 ∷ [])) ++ drop 17 ds ≡ ds
tail_again v ds h e =
    let s = first_stands 19 (just 10) [] (drop 16 ds) e in
    let t = eqb-true s.first 10 s.may in
    let d : drop 17 ds ≡ s.rest = sym (drop-drop 1 16 ds) ∙ ap (drop 1) s.is in
    append_assoc (hex 16 v) (10 ∷ []) (drop 17 ds) ∙ ap (λ xs. xs ++ (10 ∷ drop 17 ds)) h
    ∙ ap (λ xs. take 16 ds ++ (10 ∷ xs)) d ∙ ap (λ x. take 16 ds ++ (x ∷ s.rest)) (sym t) ∙ ap (λ xs. take 16 ds ++ xs) (sym s.is) ∙ take-append-drop 16 ds

pub row_stands : (bs : List ℕ) → fault 1 row_line bs ≡ None → WholeRow bs
row_stands bs e =
    let s = first_stands 1 letter (just 32 ∷ (replicate 16 digit ++ (just 10 ∷ []))) bs e in
    let p = first_stands 2 (just 32) (replicate 16 digit ++ (just 10 ∷ [])) s.rest s.behind in
    let d = digits_stand 3 16 (just 10 ∷ []) p.rest p.behind in
    let t = eqb-true p.first 32 p.may in
    let is : bs ≡ s.first ∷ 32 ∷ p.rest = s.is ∙ ap (λ xs. s.first ∷ xs) (p.is ∙ ap (λ x. x ∷ p.rest) t) in
    let l : length (take 16 p.rest) ≡ 16 = length-take-le 16 p.rest d.enough in
    let h : hex 16 (value (take 16 p.rest)) ≡ take 16 p.rest = ap (λ n. hex n (value (take 16 p.rest))) (sym l) ∙ hex_onto 0 (take 16 p.rest) d.digits in
    let small : value (take 16 p.rest) < 2 ^ 64 = subst (λ n. value (take 16 p.rest) < 16 ^ n) l (value_lt (take 16 p.rest)) in
    let again = tail_again (value (take 16 p.rest)) p.rest h d.behind in
    subst WholeRow (sym is) (of_letter s.first p.rest (letter_stands s.first s.may) again small)
  where
    of_letter : (b : ℕ) (ds : List ℕ) → (b ≡ 100) ⊎ (b ≡ 99) → (hex 16 (value (take 16 ds)) ++ (10 ∷ [])) ++ drop 17 ds ≡ ds → value (take 16 ds) < 2 ^ 64 → WholeRow (b ∷ 32 ∷ ds)
    of_letter b ds (inl e) again small = subst (λ x. WholeRow (x ∷ 32 ∷ ds)) (sym e) (record { printed = ap (λ xs. 100 ∷ 32 ∷ xs) again; small = small })
    of_letter b ds (inr e) again small = subst (λ x. WholeRow (x ∷ 32 ∷ ds)) (sym e) (record { printed = ap (λ xs. 99 ∷ 32 ∷ xs) again; small = small })
