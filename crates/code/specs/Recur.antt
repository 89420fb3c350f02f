-- For proofs: the scrambling sequence obeys its recurrence, alone, and the key has its bits.
use Rattle.std.specs.Prelude.{◌≡◌, ℕ, zero, suc, ◌+◌, ◌*◌, ◌/◌, ◌%◌, ◌^◌, ◌<◌, ℤ, pos, negsuc, ◌-ℤ◌, slice_index, refl}
use Rattle.std.proofs.Common.{sym, ap, ap₂, ◌∙◌, arith}
use Rattle.std.proofs.Math.Nat.{pow-succ', div-div-eq-div-mul}
use Rattle.std.proofs.lemmas.List.FromFn.{get_or-map-range_with_len}
use Rattle.std.proofs.lemmas.Int.{ints}
use Rattle.code.specs.Sequence.{Recurrence, SequenceLaws, history, sequence, gathered}

-- place i of the history of bit k holds bit k − 1 − i
abbrev Aligned : (ℤ → ℕ) → ℕ → Type 0
Aligned bit k = (i : ℕ) → i < k + 58 → slice_index (history k) i ≡ bit (pos k -ℤ pos (suc i))

aligned : (bit : ℤ → ℕ) → ((i : ℕ) → i < 58 → bit (negsuc i) ≡ i % 2) → ((k : ℕ) → Aligned bit k → slice_index (history (suc k)) 0 ≡ bit (pos k)) → (k : ℕ) → Aligned bit k
unfolding history
aligned bit before step zero i h =
    let e : negsuc i ≡ pos 0 -ℤ pos (suc i) = omega (arith, ints) in
    get_or-map-range_with_len (λ j. j % 2) 0 58 i i 0 (omega arith) (omega arith) ∙ sym (before i (omega arith)) ∙ ap bit e
aligned bit before step (suc k) zero h =
    let e : pos k ≡ pos (suc k) -ℤ pos 1 = omega (arith, ints) in
    step k (aligned bit before step k) ∙ ap bit e
aligned bit before step (suc k) (suc i) h =
    let e : pos k -ℤ pos (suc i) ≡ pos (suc k) -ℤ pos (suc (suc i)) = omega (arith, ints) in
    aligned bit before step k i (omega arith) ∙ ap bit e

obeys : Recurrence sequence
unfolding history
obeys =
    let own : (k : ℕ) → Aligned sequence k = aligned sequence (λ i h. refl) (λ k a. refl) in
    record { before = λ i h. refl; later = λ k. ap₂ (λ x y. (x + y) % 2) (own k 38 (omega arith)) (own k 57 (omega arith)) }

alone : (bit : ℤ → ℕ) → Recurrence bit → (k : ℕ) → bit (pos k) ≡ sequence (pos k)
unfolding history
alone bit r k =
    let step : (j : ℕ) → Aligned bit j → slice_index (history (suc j)) 0 ≡ bit (pos j) =
    λ j a. ap₂ (λ x y. (x + y) % 2) (a 38 (omega arith)) (a 57 (omega arith)) ∙ sym (r.later j) in
    sym (step k (aligned bit r.before step k))

bit_small : (k : ℕ) → sequence (pos k) < 2
unfolding history
bit_small k = omega arith

gathered_small : (w k : ℕ) → gathered w k < 2 ^ w
unfolding gathered
gathered_small zero k = omega arith
gathered_small (suc w) k = let i = gathered_small w (k + 1) in let b = bit_small k in omega arith

gathered_bit : (w k r : ℕ) → r < w → gathered w k / 2 ^ r % 2 ≡ sequence (pos (k + r))
unfolding gathered
gathered_bit zero k r h = omega arith
gathered_bit (suc w) k zero h =
    let b = bit_small k in
    let e : k ≡ k + 0 = omega arith in
    let f : gathered (suc w) k / 2 ^ 0 % 2 ≡ sequence (pos k) = omega arith in
    f ∙ ap (λ j. sequence (pos j)) e
gathered_bit (suc w) k (suc r) h =
    let b = bit_small k in
    let e : k + 1 + r ≡ k + suc r = omega arith in
    let half : gathered (suc w) k / 2 ≡ gathered w (k + 1) = omega arith in
    let shift : gathered (suc w) k / 2 ^ suc r ≡ gathered w (k + 1) / 2 ^ r =
    ap (λ d. gathered (suc w) k / d) (pow-succ' 2 r) ∙ sym (div-div-eq-div-mul (gathered (suc w) k) 2 (2 ^ r)) ∙ ap (λ q. q / 2 ^ r) half in
    ap (λ q. q % 2) shift ∙ gathered_bit w (k + 1) r (omega arith) ∙ ap (λ j. sequence (pos j)) e

pub sequence_laws : SequenceLaws
sequence_laws = record {
  obeys = obeys;
  alone = alone;
  symbols = λ s. gathered_small 10 (10 * s);
  bits = λ s r h. gathered_bit 10 (10 * s) r h;
}
