-- What is left to show of `start`.
use Rattle.std.proofs.Common.{◌≡◌, ℕ, ◌*◌, ◌<◌, get_or, subst, sym, arith, rules, lit<}
use native.Mathlib.Decide.{dec_lt}
use Rattle.std.proofs.lemmas.List.{get_or_past}
use Rattle.field.specs.Field.{mul, pow}
use Rattle.reed_solomon_decoder.proofs.Exponents.{lowered_start}
use Rattle.code.proofs.FromFn.{filled_from}
use Rattle.reed_solomon_decoder.proofs.search.start.Goals as goal

made : (c : goal.After-from_fn) (k : ℕ) → k < 8 → (get_or c.from_fn.result k 0 ≡ mul (get_or c.args.u.now k 0) (pow 2 (527 * k))) × (get_or c.from_fn.result k 0 < 1024)
made c k h =
    filled_from (λ (i t : ℕ). (t ≡ mul (get_or c.args.u.now i 0) (pow 2 (527 * i))) × (t < 1024)) (λ i y q e. search rules)
    c.from_fn.result 0 8 k 0 c.from_fn.ensures.items.each (omega arith) (omega arith)

pub returns : goal.returns
returns c =
    record {
      lowered = λ k h. lowered_start c.args.u.now c.from_fn.result 527 k (made c k (omega arith)).0;
      elements = λ k. elim (dec_lt k 8) [
        | yes h ↦ (made c k h).1
        | no h ↦ subst (λ (t : ℕ). t < 1024) (sym (get_or_past c.from_fn.result k 0 (omega arith))) (lit< tt)
      ];
      wide = search rules;
    }
