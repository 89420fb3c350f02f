-- What is left to show of `eliminate`.
use Rattle.std.proofs.Common.{◌≡◌, ℕ, ◌+◌, ◌-◌, ◌<◌, ◌==◌, not, position, Some, List, [], get_or, take, refl, sym, ◌∙◌, subst, arith}
use Rattle.reed_solomon_decoder.proofs.Rows.{kernel_step, pivot_within, pivot_found, pivot_clear, none_clear, turned_kept, turned_long, turned_part, turned_next}
use Rattle.reed_solomon_decoder.proofs.elimination.eliminate.Goals as goal
use Rattle.reed_solomon_decoder.specs.Errors.{dot}
use Rattle.reed_solomon_decoder.specs.Kernel.{Reduced}

pub returns : goal.returns
returns c s j is kernel =
    let rows : List (List ℕ) = c.args.rows.now in
    let window : List ℕ = c.args.window.now in
    let first : ℕ = c.in-Some.first in
    let last : ℕ = c.args.last in
    let turned : List (List ℕ) = c.rotate_left.new.self in
    let part : List (List ℕ) = c.reduce.new.rows in
    let found : position (λ row. not (dot row window == 0)) (take last rows) ≡ Some first = sym c.in-Some.ensures in
    let within : first < last = pivot_within rows window last (omega arith) first found in
    let long = c.rotate_left.ensures.len in
    let turns = c.rotate_left.ensures.by_index in
    let count = c.reduce.ensures.count in
    kernel_step 8 s window j last first rows _ is kernel (omega arith) (pivot_clear rows window last (omega arith) first found)
    (turned_kept rows turned part first last (omega arith) [] turns long count (omega arith))
    (λ i l h.
    let at = turned_part rows turned part first last (omega arith) [] turns long count (omega arith) i l h in
    let next = turned_next rows turned part first last (omega arith) [] turns long count (omega arith) i l h in
    subst (λ (u : List ℕ). Reduced window u (get_or rows (i + 1) []) (get_or rows first [])) (sym at)
    (subst (λ (u : List ℕ). Reduced window (get_or part (i - first) []) u (get_or rows first [])) next
    (c.reduce.ensures.reduced (i - first) (omega (arith, turned_long rows turned part first last (omega arith) [] turns long count (omega arith))))))

pub returns-in_default : goal.returns-in_default
returns-in_default c s j is kernel =
    kernel_step 8 s c.args.window.now j c.args.last c.args.last c.args.rows.now c.args.rows.now is kernel (omega arith)
    (none_clear c.args.rows.now c.args.window.now c.args.last (omega arith) (sym c.pivot_in.ensures ∙ c.in_default.is))
    (λ i h. refl) (λ i l h. let f : ⊥ = omega arith in absurd f)

pub reduce-requires : goal.reduce-requires
reduce-requires c e =
    let left : 0 < dot (get_or c.args.rows.now c.in-Some.first []) c.args.window.now =
    pivot_found c.args.rows.now c.args.window.now c.args.last (omega arith) c.in-Some.first (sym c.in-Some.ensures) in
    omega arith
