-- All worked cases hold: most by computing, the blocks by the rules of their bits.
use mathlib.Core.Path.{◌≡◌, refl, sym, subst}
use mathlib.Core.List.{List, [], ◌∷◌}
use Prim.Native.Nat.{ℕ, ◌<◌}
use lib.Dec.{lit<, lit≤}
use lib.ListN.{length, replicate}
use Rattle.words.specs.Raw.{Raw, AllValid}
use Rattle.blocks.specs.Blocks.{BlockOf}
use Rattle.blocks.specs.Numbers.{block}
use Rattle.blocks.specs.Reading.{read_block, refuses}
use Rattle.blocks.specs.Refusals.{number, place}
use Rattle.blocks.specs.declared.refusal.BlockRefusal.{BlockRefusal}
use Rattle.blocks.specs.declared.refusal.BlockRefusal.TheVariants.{NoControl, NoType, Unlisted}
use Rattle.blocks.proofs.Places.{by_the_rules}
use Rattle.blocks.proofs.Refused.{block_refused}
use Rattle.blocks.proofs.Unique.{one_block}
use Rattle.code.specs.Sequence.{history, gathered}
use Rattle.code.specs.Layers.{keys}
use Rattle.field.specs.Field.{mul, mul_lowest, times_x, pow, inv}
use Rattle.reed_solomon_algebra.specs.Polynomials.{plus, scale, times}
use Rattle.reed_solomon_algebra.specs.CodeWords.{generator, WordOf}
use Rattle.reed_solomon_algebra.specs.Division.{below_first, step, remainder, parity, encode}
use Rattle.reed_solomon_algebra.proofs.Divides.{zeros_at}
use Rattle.reed_solomon_algebra.proofs.Encodes.{word_of}
use Rattle.symbols.specs.Symbols.{Message}
use Rattle.signal.specs.Signal.{cell, cells, highest_first, pattern}
use Rattle.worked_cases.specs.Cases.{AllHold, OnlyBlock, RefusedWith, with_bits, cases}

only_block : (ws : List Raw) (places : List ℕ) → length ws ≡ 4 → AllValid ws → block ws ≡ with_bits places → OnlyBlock ws (with_bits places)
only_block ws places n v e =
    let is : BlockOf ws (with_bits places) = subst (λ (b : ℕ). BlockOf ws b) e (by_the_rules ws n v) in
    record { four = n; valid = v; is = is; only = λ other o. one_block ws other (with_bits places) n o is }

refused_with : (places : List ℕ) (e : BlockRefusal) → read_block (with_bits places) ≡ refuses e → RefusedWith (with_bits places) (number e) (place e)
refused_with places e q = record { refusal = e; refused = block_refused (with_bits places) e q; numbered = refl; placed = refl }

product : mul 2 512 ≡ 9
unfolding mul mul_lowest times_x
product = refl

inverse : inv 2 ≡ 516
unfolding inv pow mul mul_lowest times_x
inverse = refl

key : keys 7 ≡ 1023 ∷ 1023 ∷ 1023 ∷ 1023 ∷ 682 ∷ 170 ∷ 0 ∷ []
unfolding keys gathered history
key = refl

zeros_coded : encode 7 (replicate 514 0) ≡ replicate 528 0
unfolding encode parity remainder step below_first generator times plus scale pow mul mul_lowest times_x
zeros_coded = refl

zeros_message : Message (replicate 514 0)
zeros_message = record { long = refl; symbols = λ k h. subst (λ (x : ℕ). x < 1024) (sym (zeros_at 514 k)) (lit< tt) }

zeros_word : WordOf 7 (replicate 514 0) (replicate 528 0)
zeros_word = subst (λ (line : List ℕ). WordOf 7 (replicate 514 0) line) zeros_coded (word_of 7 (lit≤ tt) (replicate 514 0) zeros_message)

two_ones : cells 0 (highest_first 2 3) ≡ 1 ∷ 1 ∷ 1 ∷ 1 ∷ 0 ∷ 0 ∷ 0 ∷ 0 ∷ 1 ∷ 1 ∷ 1 ∷ 1 ∷ 0 ∷ 0 ∷ 0 ∷ 0 ∷ []
unfolding cells cell highest_first
two_ones = refl

two_zeros : cells 0 (highest_first 2 0) ≡ 1 ∷ 1 ∷ 1 ∷ 1 ∷ 1 ∷ 1 ∷ 1 ∷ 1 ∷ 0 ∷ 0 ∷ 0 ∷ 0 ∷ 0 ∷ 0 ∷ 0 ∷ 0 ∷ []
unfolding cells cell highest_first
two_zeros = refl

seed_1 : pattern 1 12 ≡ 1 ∷ 0 ∷ 0 ∷ 0 ∷ 0 ∷ 0 ∷ 0 ∷ 0 ∷ 0 ∷ 0 ∷ 0 ∷ 1 ∷ []
unfolding pattern
seed_1 = refl

pub all_hold : AllHold cases
all_hold = (
  only_block _ (0 ∷ []) refl (lit< tt, (lit< tt, (lit< tt, (lit< tt, tt)))) refl,
  (
    only_block _ (2 ∷ 3 ∷ 4 ∷ 6 ∷ 7 ∷ 8 ∷ []) refl ((lit< tt, refl), (lit< tt, (lit< tt, (lit< tt, tt)))) refl,
    (
      only_block _ (1 ∷ 3 ∷ 4 ∷ 72 ∷ []) refl (lit< tt, ((lit< tt, refl), (lit< tt, (lit< tt, tt)))) refl,
      (
        refused_with (1 ∷ 2 ∷ 3 ∷ 4 ∷ []) NoControl refl,
        (
          refused_with [] (NoType 0) refl,
          (
            refused_with (3 ∷ 4 ∷ 6 ∷ 7 ∷ 8 ∷ []) (Unlisted 1) refl,
            (
              product,
              (
                inverse,
                (
                  key,
                  (
                    (zeros_word, zeros_coded),
                    (
                      two_ones,
                      (
                        two_zeros,
                        (
                          seed_1,
                          tt,
                        ),
                      ),
                    ),
                  ),
                ),
              ),
            ),
          ),
        ),
      ),
    ),
  ),
)
