-- The low nibble of a listed type tells the type.
use Rattle.std.proofs.Common.{◌≡◌, ℕ, zero, suc, ◌+◌, ◌*◌, ◌/◌, ◌%◌, ◌^◌, ◌<◌, Bool, true, not, ◌&&◌, ◌||◌, eqb, ltb, sym, refl, ap, ◌∙◌, inl, inr, add-one, arith, below_more}
use Rattle.std.proofs.lemmas.Bool.{and_parts, or_cases, eqb-true, ltb-true, not-true, both_ways}
use Rattle.words.specs.Types.{listed, high, LowNibbleTellsType}
use Rattle.words.specs.Raw.{Valid, control_word}
use Rattle.blocks.specs.Numbers.{kept, restored}

abbrev all_below : (ℕ → Bool) → ℕ → Bool
all_below f zero = true
all_below f (suc n) = f n && all_below f n

at : (f : ℕ → Bool) (n k : ℕ) → all_below f n ≡ true → k < n → f k ≡ true
at f zero k t h = absurd (omega arith)
at f (suc n) k t h = below_more (λ i. f i ≡ true) n (λ i l. at f n i (and_parts (f n) (all_below f n) t).1 l) (and_parts (f n) (all_below f n) t).0 k (rw add-one h)

abbrev tells : ℕ → Bool
tells t = not (listed t) || (eqb (t / 16) (high (t % 16)) && ltb 0 (t % 16))

abbrev back : ℕ → Bool
back n = ltb (high n) 16 && (eqb n 0 || listed (n + 16 * high n))

pub told : (t : ℕ) → t < 256 → listed t ≡ true → (t / 16 ≡ high (t % 16)) × (0 < t % 16)
told t h l =
    elim (or_cases (not (listed t)) _ (at tells 256 t refl h)) [
      | inl n ↦ absurd (both_ways (listed t) (not-true (listed t) n) l)
      | inr p ↦ (let q = and_parts _ _ p in (eqb-true _ _ q.0, ltb-true _ _ q.1))
    ]

pub high_small : (n : ℕ) → n < 16 → high n < 16
high_small n h = ltb-true _ _ (and_parts _ _ (at back 16 n refl h)).0

pub listed_again : (n : ℕ) → n < 16 → 0 < n → listed (n + 16 * high n) ≡ true
listed_again n h l =
    elim (or_cases _ _ (and_parts _ _ (at back 16 n refl h)).1) [
      | inl z ↦ (let e = eqb-true n 0 z in absurd (omega arith))
      | inr p ↦ p
    ]

-- for any h below 16
parts : (y h : ℕ) → h < 16 → (y % 16 + 2 ^ 4 * h + 2 ^ 8 * (y / 16)) % 16 + 2 ^ 4 * ((y % 16 + 2 ^ 4 * h + 2 ^ 8 * (y / 16)) / 256) ≡ y
parts y h l = omega arith

pub kept_restored : (y : ℕ) → kept (restored y) ≡ y
kept_restored y = parts y (high (y % 16)) (high_small (y % 16) (omega arith))

pub restored_type : (y : ℕ) → 0 < y % 16 → listed (restored y % 256) ≡ true
restored_type y l =
    let s = high_small (y % 16) (omega arith) in
    let e : restored y % 256 ≡ y % 16 + 16 * high (y % 16) = omega arith in
    rw e (listed_again (y % 16) (omega arith) l)

pub restored_kept : (b : ℕ) → listed (b % 256) ≡ true → (restored (kept b) ≡ b) × (0 < kept b % 16)
restored_kept b l =
    let t = told (b % 256) (omega arith) l in
    let e : kept b % 16 ≡ b % 256 % 16 = omega arith in
    let f : high (kept b % 16) ≡ b % 256 / 16 = ap high e ∙ sym t.0 in
    (omega (arith, f), omega (arith, t.1))

pub restored_valid : (y : ℕ) → y < 2 ^ 60 → 0 < y % 16 → Valid (control_word (restored y))
restored_valid y h l = let s = high_small (y % 16) (omega arith) in (omega arith, restored_type y l)

pub tells_type : LowNibbleTellsType
tells_type =
    record {
      restores = λ t h l. omega (arith, (told t h l).0);
      nonzero = λ t h l. (told t h l).1;
      different = λ t u h k l m e. (let a = (told t h l).0 in let b = (told u k m).0 in let c = ap high e in omega arith);
    }
