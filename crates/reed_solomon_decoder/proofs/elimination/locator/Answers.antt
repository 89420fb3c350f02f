-- What is left to show of `locator`.
use Rattle.std.proofs.Common.{◌≡◌, ℕ, ◌+◌, ◌-◌, ◌<◌, ◌≤◌, ◌≢◌, List, [], length, get_or, take, drop, ap, ap₂, sym, ◌∙◌, subst, arith, rules, length-drop}
use Rattle.std.proofs.lemmas.List.{drop-drop}
use Rattle.std.specs.Slice.Iter.{windows_size}
use Rattle.std.specs.Slice.ArrayWindows.{array_windows_parts}
use Rattle.std.specs.Iterator.Adapters.{enumerate_count, enumerate_source}
use Rattle.reed_solomon_decoder.proofs.Rows.{kernel_start, kernel_found}
use Rattle.code.proofs.FromFn.{filled_from}
use Rattle.reed_solomon_decoder.proofs.elimination.locator.Goals as goal
use Rattle.reed_solomon_decoder.specs.Kernel.{Kernel}

pub loop-j-init : goal.loop-j-init
loop-j-init c =
    let s : List ℕ = c.args.s.now in
    let gives = c.into_iter-j-iterator.ensures.into_iter_gives in
    let none : enumerate_count c.into_iter-j-iterator.result ≡ 0 = ap enumerate_count gives ∙ c.enumerate-j-items.ensures.count in (
      subst (λ (n : ℕ). Kernel 8 s n (8 - n) c.from_fn-rows.result) (sym none)
          (kernel_start 8 8 s c.from_fn-rows.result
          (λ i h.
          let row = filled_from (λ (k : ℕ) (row : List ℕ). (length row ≡ 8) × (k < 8 → get_or row k 0 ≡ 1) × ((m : ℕ) → m ≢ k → get_or row m 0 ≡ 0)) (λ k row q e. search rules)
          c.from_fn-rows.result 0 8 i [] c.from_fn-rows.ensures.items.each (omega arith) (omega arith) in
          record { wide = row.0; here = row.1 h; other = row.2 })),
      omega arith,
      search rules,
      ap (λ i. windows_size (array_windows_parts (enumerate_source i))) gives
          ∙ ap (λ w. windows_size (array_windows_parts w)) c.enumerate-j-items.ensures.source ∙ c.array_windows.ensures.size,
    )

pub loop-j-preserved : goal.loop-j-preserved
loop-j-preserved c =
    let s : List ℕ = c.args.s.now in
    let j : ℕ = enumerate_count c.loop-j.j-iterator in
    let wide : ℕ = windows_size (array_windows_parts (enumerate_source c.loop-j.j-iterator)) in
    let steps = c.in-Some.ensures.steps in
    let up : enumerate_count c.next.new.self ≡ j + 1 = steps.2 in
    let at : c.in-Some.j ≡ j = steps.1 in
    let room : 8 ≤ length (drop j s) = subst (λ (n : ℕ). n ≤ length (drop j s)) c.loop-j.invariant.3 (subst (λ (l : List ℕ). wide ≤ length l) c.loop-j.invariant.2 steps.0.1.0) in
    let few : j < 7 = omega (arith, length-drop j s) in
    let is : c.in-Some.window.now ≡ take 8 (drop j s) = steps.0.1.1 ∙ ap₂ take c.loop-j.invariant.3 c.loop-j.invariant.2 in
    let kernel : Kernel 8 s (j + 1) (7 - c.in-Some.j) c.eliminate.new.rows =
    c.eliminate.ensures s j is (subst (λ (n : ℕ). Kernel 8 s j n c.loop-j.rows) (omega arith) c.loop-j.invariant.0) in (
      subst (λ (n : ℕ). Kernel 8 s n (8 - n) c.eliminate.new.rows) (sym up)
          (subst (λ (n : ℕ). Kernel 8 s (j + 1) n c.eliminate.new.rows) (omega arith) kernel),
      omega arith,
      steps.0.1.2 ∙ ap (drop 1) c.loop-j.invariant.2 ∙ drop-drop 1 j s ∙ sym (ap (λ (n : ℕ). drop n s) up),
      steps.0.0 ∙ c.loop-j.invariant.3,
    )

pub returns : goal.returns
returns c =
    let s : List ℕ = c.args.s.now in
    let j : ℕ = enumerate_count c.loop-j.j-iterator in
    let wide : ℕ = windows_size (array_windows_parts (enumerate_source c.loop-j.j-iterator)) in
    let steps = c.in-None.ensures.steps in
    let short : length (drop j s) < 8 = subst (λ (n : ℕ). length (drop j s) < n) c.loop-j.invariant.3 (subst (λ (l : List ℕ). length l < wide) c.loop-j.invariant.2 steps.0.1.0) in
    let seven : j ≡ 7 = omega (arith, length-drop j s, c.loop-j.invariant.1) in
    kernel_found 8 s 7 c.loop-j.rows
    (subst (λ (n : ℕ). Kernel 8 s n (8 - n) c.loop-j.rows) seven c.loop-j.invariant.0)
