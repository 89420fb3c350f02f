-- Bits that are shifted into place keep what they are.
use Rattle.std.proofs.Common.{◌≡◌, ℕ, ◌+◌, ◌-◌, ◌*◌, ◌/◌, ◌%◌, ◌^◌, ◌<◌, ◌≤◌, List, [], ◌∷◌, ◌++◌, length, take, set, sym, refl, append_assoc, length-append, ap, ◌∙◌, inl, inr, mul_assoc, mul_comm, mul-add, arith}
use Rattle.std.proofs.lemmas.Nat.{pow-add, shl_whole, mul-add-lt}
use Rattle.std.proofs.Math.Seq.{take-append_seam}
use Rattle.std.proofs.lemmas.List.{length-take-le, take_more_set, length_push, get_or_append_left, get_or-append_right, get_or_push}
use Rattle.std.proofs.lemmas.Bool.{cases_lt}
use Rattle.blocks.specs.Packed.{onto}
use Rattle.blocks.proofs.Packing.{onto_set}
use Rattle.symbols.specs.Symbols.{Symbols}

-- the shifted value is whole
pub shifted : (value fill width : ℕ) → value < 2 ^ width → width ≤ 64 → fill < 10 → value * 2 ^ fill % 2 ^ 128 ≡ value * 2 ^ fill
shifted value fill width h w f = shl_whole value width fill 128 h (omega arith)

pub held_more : (acc value fill width : ℕ) → acc < 2 ^ fill → value < 2 ^ width → acc + value * 2 ^ fill < 2 ^ (fill + width)
held_more acc value fill width h v = let p = pow-add 2 fill width in let q = mul-add-lt value (2 ^ fill) acc (2 ^ width) v h in omega arith

pub begun : (acc value fill width more : ℕ) → acc + value * 2 ^ fill + 2 ^ (fill + width) * more ≡ acc + 2 ^ fill * (value + 2 ^ width * more)
begun acc value fill width more =
    let p : 2 ^ (fill + width) * more ≡ 2 ^ fill * (2 ^ width * more) = rw (pow-add 2 fill width) (mul_assoc (2 ^ fill) (2 ^ width) more) in
    let q = mul-add (2 ^ fill) value (2 ^ width * more) in
    let r = mul_comm value (2 ^ fill) in
    omega arith

tens : (fill : ℕ) → 10 ≤ fill → 2 ^ fill ≡ 1024 * 2 ^ (fill - 10)
tens fill h =
    let n : 10 + (fill - 10) ≡ fill = omega arith in
    ap (λ (k : ℕ). 2 ^ k) (sym n) ∙ pow-add 2 10 (fill - 10)

pub held_less : (acc fill : ℕ) → 10 ≤ fill → acc < 2 ^ fill → acc / 1024 < 2 ^ (fill - 10)
held_less acc fill h l = let t = tens fill h in omega arith

pub moved : (out : List ℕ) (at acc fill more : ℕ) → at < length out → 10 ≤ fill
    → onto 10 (take (at + 1) (set out at (acc % 1024))) (acc / 1024 + 2 ^ (fill - 10) * more) ≡ onto 10 (take at out) (acc + 2 ^ fill * more)
moved out at acc fill more h l =
    let a : 2 ^ fill * more ≡ 1024 * (2 ^ (fill - 10) * more) = rw (tens fill l) (mul_assoc 1024 (2 ^ (fill - 10)) more) in
    let s : acc % 1024 + 2 ^ 10 * (acc / 1024 + 2 ^ (fill - 10) * more) ≡ acc + 2 ^ fill * more = omega arith in
    onto_set 10 out at (acc % 1024) (acc / 1024 + 2 ^ (fill - 10) * more) h ∙ ap (onto 10 (take at out)) s

small_push : (xs : List ℕ) (y : ℕ) → Symbols xs → y < 1024 → Symbols (xs ++ y ∷ [])
small_push xs y s h k l =
    elim (cases_lt k (length xs)) [
      | inl b ↦ (rw (get_or_append_left xs (y ∷ []) 0 k b) (s k b))
      | inr b ↦ (let e : length xs ≡ k = omega (arith, length_push xs y) in rw (get_or_push xs y 0 k e) h)
    ]

pub small_more : (out : List ℕ) (at y : ℕ) → at < length out → Symbols (take at out) → y < 1024 → Symbols (take (at + 1) (set out at y))
small_more out at y h s l = rw (take_more_set out at y h) (small_push (take at out) y s l)

-- what is written stands above what was
pub put_part : {A : Type 0} (xs ys after : List A) (at end : ℕ) → at ≤ length xs → end ≡ at + length ys → take end (take at xs ++ (ys ++ after)) ≡ take at xs ++ ys
put_part xs ys after at end h e =
    let l : length (take at xs ++ ys) ≡ end = length-append (take at xs) ys ∙ omega (arith, length-take-le at xs h) in
    rw (← append_assoc, ← l) (take-append_seam (take at xs ++ ys) after)

onto_append : (w : ℕ) (xs ys : List ℕ) (t : ℕ) → onto w (xs ++ ys) t ≡ onto w xs (onto w ys t)
onto_append w [] ys t = refl
onto_append w (x ∷ xs) ys t = ap (λ (n : ℕ). x + 2 ^ w * n) (onto_append w xs ys t)

pub joined : (xs ys out : List ℕ) (at end high low : ℕ) → take end out ≡ take at xs ++ ys → onto 10 ys high ≡ low → onto 10 (take end out) high ≡ onto 10 (take at xs) low
joined xs ys out at end high low p e = rw p (onto_append 10 (take at xs) ys high ∙ ap (onto 10 (take at xs)) e)

pub small_append : (xs ys : List ℕ) → Symbols xs → Symbols ys → Symbols (xs ++ ys)
small_append xs ys s t k l =
    elim (cases_lt k (length xs)) [
      | inl b ↦ (rw (get_or_append_left xs ys 0 k b) (s k b))
      | inr b ↦ (rw (get_or-append_right xs ys (length xs) k 0 refl b) (t (k - length xs) (omega (arith, length-append xs ys))))
    ]
