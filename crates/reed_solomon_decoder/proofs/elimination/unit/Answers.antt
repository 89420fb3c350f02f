-- What is left to show of `unit`.
use Rattle.std.proofs.Common.{◌≡◌, ℕ, ◌<◌, ◌≢◌, get_or, refl, arith, rules}
use native.Mathlib.Decide.{dec_lt}
use Rattle.std.proofs.lemmas.List.{get_or_past}
use Rattle.code.proofs.FromFn.{filled_from}
use Rattle.reed_solomon_decoder.proofs.elimination.unit.Goals as goal

made : (c : goal.After-from_fn) (k : ℕ) → k < 8 → (k ≡ c.args.i → get_or c.from_fn.result k 0 ≡ 1) × (k ≢ c.args.i → get_or c.from_fn.result k 0 ≡ 0)
made c k h =
    filled_from (λ (n y : ℕ). (n ≡ c.args.i → y ≡ 1) × (n ≢ c.args.i → y ≡ 0)) (λ n y q e. search rules)
    c.from_fn.result 0 8 k 0 c.from_fn.ensures.items.each (omega arith) (omega arith)

pub returns : goal.returns
returns c =
    record {
      wide = search rules;
      here = λ h. (made c c.args.i h).0 refl;
      other = λ k ne. elim (dec_lt k 8) [
        | yes h ↦ (made c k h).1 ne
        | no h ↦ get_or_past c.from_fn.result k 0 (omega arith)
      ];
    }
