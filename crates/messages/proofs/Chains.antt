-- One push after another is one push.
use Rattle.std.proofs.Common.{◌≡◌, ℕ, zero, suc, refl, ◌+◌, ◌*◌, ◌^◌, ◌<◌, List, [], ◌∷◌, length, get_or, take, ap, ◌∙◌, mul_assoc, mul-add, arith}
use Rattle.std.proofs.lemmas.Nat.{pow-add}
use Rattle.blocks.specs.Packed.{packed}
use Rattle.messages.specs.Writers.{under, Pushed}
use Rattle.messages.specs.declared.bits.Writer.{Writer}

pub both : {v w v₂ w₂ : ℕ} {a b c : Writer} → Pushed v w a b → Pushed v₂ w₂ b c → Pushed (v + 2 ^ w * v₂) (w + w₂) a c
both {v} {w} {v₂} {w₂} {a} p q =
    record {
      long = q.long ∙ p.long;
      small = λ s. q.small (p.small s);
      counts = omega (arith, p.counts, q.counts);
      means = λ more.
          (let m : 2 ^ (w + w₂) * more ≡ 2 ^ w * (2 ^ w₂ * more) = rw (pow-add 2 w w₂) (mul_assoc (2 ^ w) (2 ^ w₂) more) in
          let d = mul-add (2 ^ w) v₂ (2 ^ w₂ * more) in
          let e : v + 2 ^ w * (v₂ + 2 ^ w₂ * more) ≡ v + 2 ^ w * v₂ + 2 ^ (w + w₂) * more = omega arith in
          q.means more ∙ p.means (v₂ + 2 ^ w₂ * more) ∙ ap (under a) e);
    }

pub top : (xs : List ℕ) → packed 64 xs < 2 ^ 257 → get_or xs 4 0 < 2
top [] h = omega arith
top (a ∷ []) h = omega arith
top (a ∷ b ∷ []) h = omega arith
top (a ∷ b ∷ c ∷ []) h = omega arith
top (a ∷ b ∷ c ∷ d ∷ []) h = omega arith
top (a ∷ b ∷ c ∷ d ∷ e ∷ r) h = omega arith

pub limbs : (xs : List ℕ) → length xs ≡ 5 → get_or xs 0 0 + 2 ^ 64 * get_or xs 1 0 + 2 ^ 128 * get_or xs 2 0 + 2 ^ 192 * get_or xs 3 0 + 2 ^ 256 * get_or xs 4 0 ≡ packed 64 xs
limbs [] h = absurd (omega arith)
limbs (a ∷ []) h = absurd (omega arith)
limbs (a ∷ b ∷ []) h = absurd (omega arith)
limbs (a ∷ b ∷ c ∷ []) h = absurd (omega arith)
limbs (a ∷ b ∷ c ∷ d ∷ []) h = absurd (omega arith)
limbs (a ∷ b ∷ c ∷ d ∷ e ∷ []) h = omega arith
limbs (a ∷ b ∷ c ∷ d ∷ e ∷ f ∷ r) h = absurd (omega arith)

pub none_pushed : (w : Writer) → Pushed 0 0 w w
none_pushed w =
    record {
      long = refl;
      small = λ s. s;
      counts = omega arith;
      means = λ more. (let e : more ≡ 0 + 2 ^ 0 * more = omega arith in ap (under w) e);
    }

packed_more : (xs : List ℕ) (j : ℕ) → j < length xs → packed 64 (take (j + 1) xs) ≡ packed 64 (take j xs) + 2 ^ (64 * j) * get_or xs j 0
packed_more [] j h = absurd (omega arith)
packed_more (x ∷ xs) zero h = omega arith
packed_more (x ∷ xs) (suc j) h =
    let i = packed_more xs j (omega arith) in
    let n : suc j + 1 ≡ suc (j + 1) = omega arith in
    let m : 64 * suc j ≡ 64 + 64 * j = omega arith in
    let p : 2 ^ (64 + 64 * j) * get_or xs j 0 ≡ 2 ^ 64 * (2 ^ (64 * j) * get_or xs j 0) = rw (pow-add 2 64 (64 * j)) (mul_assoc (2 ^ 64) (2 ^ (64 * j)) (get_or xs j 0)) in
    rw (n, m, p) (omega (arith, i))

-- one limb more
pub limb_more : {a b c : Writer} (xs : List ℕ) (j : ℕ) → j < length xs → Pushed (packed 64 (take j xs)) (64 * j) a b → Pushed (get_or xs j 0) 64 b c → Pushed (packed 64 (take (j + 1) xs)) (64 * (j + 1)) a c
limb_more xs j h p q = let w : 64 * (j + 1) ≡ 64 * j + 64 = omega arith in rw (packed_more xs j h, w) (both p q)

-- the last limb: it is one bit
pub last_limb : {a b c : Writer} (xs : List ℕ) (j : ℕ) → length xs ≡ 5 → j ≡ 4 → Pushed (packed 64 (take j (get_or xs 0 0 ∷ get_or xs 1 0 ∷ get_or xs 2 0 ∷ get_or xs 3 0 ∷ []))) (64 * j) a b → Pushed (get_or xs 4 0) 1 b c
    → Pushed (packed 64 xs) 257 a c
last_limb xs j n h p q =
    let e = both (rw h at p) q in
    let s : packed 64 (take 4 (get_or xs 0 0 ∷ get_or xs 1 0 ∷ get_or xs 2 0 ∷ get_or xs 3 0 ∷ [])) + 2 ^ 256 * get_or xs 4 0 ≡ packed 64 xs = omega (arith, limbs xs n) in
    rw s at e
