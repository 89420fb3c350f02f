-- Four words have one block: the rules fix every bit.
use Rattle.std.proofs.Common.{◌≡◌, ℕ, zero, suc, ◌+◌, ◌-◌, ◌*◌, ◌/◌, ◌<◌, ◌≤◌, ◌⊎◌, List, [], ◌∷◌, length, sym, refl, ◌∙◌, inl, inr, arith}
use Rattle.std.proofs.lemmas.Bool.{cases_lt}
use Rattle.words.specs.Raw.{Raw, data_word, control_word, mark}
use Rattle.blocks.specs.Blocks.{bit, word, FirstControl, DataBlock, MixedBlock, BlockOf}
use Rattle.blocks.proofs.Bits.{same_field, same_bits}

-- either all words are data, or one is the first control word
pub kinds : (ws : List Raw) → ((j : ℕ) → j < length ws → mark (word ws j) ≡ 1) ⊎ ((c : ℕ) × FirstControl ws c)
kinds [] = inl (λ j h. absurd (omega arith))
kinds (control_word b ∷ ws) = inr (0, record { within = omega arith; control = refl; earlier = λ j h. absurd (omega arith) })
kinds (data_word b ∷ ws) =
    elim (kinds ws) [
      | inl all ↦ inl (more all)
      | inr f ↦ inr (suc f.0, record { within = (let h = f.1.within in omega arith); control = f.1.control; earlier = early f.0 f.1.earlier })
    ]
  where
    more : ((j : ℕ) → j < length ws → mark (word ws j) ≡ 1) → (j : ℕ) → j < length (data_word b ∷ ws) → mark (word (data_word b ∷ ws) j) ≡ 1
    more all zero h = refl
    more all (suc j) h = all j (omega arith)

    early : (c : ℕ) → ((j : ℕ) → j < c → mark (word ws j) ≡ 1) → (j : ℕ) → j < suc c → mark (word (data_word b ∷ ws) j) ≡ 1
    early c f zero h = refl
    early c f (suc j) h = f j (omega arith)

module _ (ws : List Raw) (x y : ℕ) where
  data_bit : DataBlock ws x → DataBlock ws y → (i : ℕ) → i < 257 → bit x i ≡ bit y i
  data_bit p q i h =
      elim (cases_lt i 1) [
        | inl l ↦ same_field x y 0 1 i (omega arith) (omega arith) (p.first ∙ sym q.first)
        | inr l ↦
            (let j : ℕ = (i - 1) / 64 in
            let n : j < 4 = omega arith in
            same_field x y (1 + 64 * j) 64 i (omega arith) (omega arith) (p.bodies j n ∙ sym (q.bodies j n)))
      ]

  module _ (c : ℕ) (p : MixedBlock ws c x) (q : MixedBlock ws c y) where
    head_bit : (i : ℕ) → i < 5 → bit x i ≡ bit y i
    head_bit zero h = p.first ∙ sym q.first
    head_bit (suc j) h =
        let s : suc j ≡ 1 + j = omega arith in
        let n : j < 4 = omega arith in
        rw s (p.marked j n ∙ sym (q.marked j n))

    kept_bit : (i : ℕ) → 5 + 64 * c ≤ i → i < 65 + 64 * c → bit x i ≡ bit y i
    kept_bit i h l =
        elim (cases_lt i (9 + 64 * c)) [
          | inl m ↦ same_field x y (5 + 64 * c) 4 i h (omega arith) (p.low ∙ sym q.low)
          | inr m ↦ same_field x y (9 + 64 * c) 56 i (omega arith) (omega arith) (p.rest ∙ sym q.rest)
        ]

    late_bit : (i : ℕ) → 65 + 64 * c ≤ i → i < 257 → bit x i ≡ bit y i
    late_bit i h l =
        let j : ℕ = (i - 1) / 64 in
        let n : j < 4 = omega arith in
        let m : c < j = omega arith in
        same_field x y (1 + 64 * j) 64 i (omega arith) (omega arith) (p.after j m n ∙ sym (q.after j m n))

    early_bit : (i : ℕ) → 5 ≤ i → i < 5 + 64 * c → bit x i ≡ bit y i
    early_bit i h l =
        let j : ℕ = (i - 5) / 64 in
        let n : j < c = omega arith in
        same_field x y (5 + 64 * j) 64 i (omega arith) (omega arith) (p.before j n ∙ sym (q.before j n))

    mixed_bit : (i : ℕ) → i < 257 → bit x i ≡ bit y i
    mixed_bit i h =
        elim (cases_lt i 5) [
          | inl a ↦ head_bit i a
          | inr a ↦
              (elim (cases_lt i (5 + 64 * c)) [
                | inl b ↦ early_bit i a b
                | inr b ↦ (elim (cases_lt i (65 + 64 * c)) [ inl d ↦ kept_bit i b d | inr d ↦ late_bit i d h ])
              ])
        ]

  pub one_block : length ws ≡ 4 → BlockOf ws x → BlockOf ws y → x ≡ y
  one_block n p q =
      same_bits 257 x y p.narrow q.narrow
      (elim (kinds ws) [
        | inl all ↦ (let f : (j : ℕ) → j < 4 → mark (word ws j) ≡ 1 = λ j h. all j (omega arith) in data_bit (p.all_data f) (q.all_data f))
        | inr f ↦ mixed_bit f.0 (p.mixed f.0 f.1) (q.mixed f.0 f.1)
      ])
