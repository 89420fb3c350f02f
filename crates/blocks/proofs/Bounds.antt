-- How many bits the words of a group fill.
use Rattle.std.proofs.Common.{◌≡◌, ℕ, zero, suc, ◌+◌, ◌*◌, ◌^◌, ◌<◌, eqb, List, [], ◌∷◌, length, inl, inr, pow-suc, arith}
use Rattle.std.proofs.lemmas.Bool.{cases_Bool, eqb-false}
use Rattle.words.specs.Raw.{Raw, data_word, control_word, AllValid}
use Rattle.blocks.specs.Numbers.{marks, whole, cut, block}
use Rattle.blocks.proofs.Laws.{marks_lt}

whole_lt : (ws : List Raw) → AllValid ws → whole ws < (2 ^ 64) ^ length ws
whole_lt [] v = omega arith
whole_lt (data_word b ∷ ws) v = let h = whole_lt ws v.1 in let p = pow-suc (2 ^ 64) (length ws) in omega arith
whole_lt (control_word b ∷ ws) v = let h = whole_lt ws v.1 in let p = pow-suc (2 ^ 64) (length ws) in omega arith

cut_lt : (ws : List Raw) (n : ℕ) → length ws ≡ suc n → AllValid ws → marks ws + 1 < 2 ^ length ws → cut ws < 2 ^ 60 * (2 ^ 64) ^ n
cut_lt [] n e v h = absurd (omega arith)
cut_lt (data_word b ∷ []) n e v h = absurd (omega arith)
cut_lt (data_word b ∷ w ∷ ws) zero e v h = absurd (omega arith)
cut_lt (data_word b ∷ w ∷ ws) (suc n) e v h =
    let p = pow-suc 2 (length (w ∷ ws)) in
    let i = cut_lt (w ∷ ws) n (omega arith) v.1 (omega arith) in
    let q = pow-suc (2 ^ 64) n in
    omega arith
cut_lt (control_word b ∷ ws) n e v h =
    let q : length ws ≡ n = omega arith in
    let i = rw q at (whole_lt ws v.1) in
    omega arith

pub block_lt : (ws : List Raw) → length ws ≡ 4 → AllValid ws → block ws < 2 ^ 257
block_lt ws n v =
    let m = rw n at (marks_lt ws) in
    elim (cases_Bool (eqb (marks ws) 15)) [
      | inl e ↦ (let w = rw n at (whole_lt ws v) in rw e (omega arith))
      | inr e ↦
          (let d : marks ws ≡ 15 → ⊥ = eqb-false _ _ e in
          let l : marks ws + 1 < 2 ^ length ws = rw n (omega arith) in
          let c = cut_lt ws 3 n v l in
          rw e (omega arith))
    ]
