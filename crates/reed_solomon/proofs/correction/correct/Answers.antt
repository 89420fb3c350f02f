-- What is left to show of `correct`.
use Rattle.std.proofs.Common.{◌≡◌, ℕ, ◌+◌, ◌<◌, List, length, drop, sym, refl, ap, ◌∙◌, ap₂, add-zero, zero-add, arith, lit≤}
use Rattle.code.specs.Distance.{distance}
use Rattle.code.specs.Metric.{distance_self}
use Rattle.reed_solomon_algebra.specs.Terms.{locators}
use Rattle.reed_solomon_decoder.specs.Listed.{listed}
use Rattle.reed_solomon_decoder.specs.declared.errors.Error.{Error}
use Rattle.reed_solomon.specs.Corrected.{corrected}
use Rattle.reed_solomon.proofs.Correcting.{turn_distinct, turn_set, turn_skip, turn_count, turns_done}
use Rattle.reed_solomon.proofs.correction.correct.Goals as goal
use Rattle.reed_solomon.proofs.correction.correct.Goals.{then-error-ne0, else-error-ne0}

pub loop-error-init : goal.loop-error-init
loop-error-init c =
    (refl, zero-add (distance c.args.line.now (corrected (listed c.args.errors.now) c.args.line.now (locators 528))), lit≤ tt, c.requires, c.told-line)

counted : (changed rest here all now : ℕ) → now ≡ changed + 1 → here ≡ 1 + rest → changed + here ≡ all → now + rest ≡ all
counted changed rest here all now a b e = omega arith

pub loop-error-preserved : goal.loop-error-preserved
loop-error-preserved c =
    let es : List Error = c.args.errors.now in
    let old : List ℕ = c.args.line.now in
    let line : List ℕ = c.loop-error.line in
    let k : ℕ = c.loop-error.error-index in
    let e : Error = c.error-item.result in
    let h : c.loop-error.error-index < length c.args.errors.now = c.loop-error-test.true in
    let long : length c.loop-error.line ≡ 528 = c.loop-error.invariant.4 in
    let apart = turn_distinct 528 es k e h c.error-item.is (lit≤ tt) e.place.within c.loop-error.invariant.3 in
    elim c.if-error-ne0.branch [
      | then-error-ne0 w ↦ (
        ap (λ (l : List ℕ). corrected (listed (drop (k + 1) es)) l (locators 528)) w.line-is
            ∙ sym (turn_set 528 es k e h c.error-item.is (lit≤ tt) e.place.within line long) ∙ c.loop-error.invariant.0,
        counted c.loop-error.changed (distance old (corrected (listed (drop (k + 1) es)) old (locators 528))) _ _ _ w.changed-is
            (turn_count 528 es k e h c.error-item.is (lit≤ tt) e.place.within old c.told-line w.if-error-ne0.true c.loop-error.invariant.3) c.loop-error.invariant.1,
        omega (arith, w.changed-is),
        apart.1,
        c.if-error-ne0.array_long,
      )
      | else-error-ne0 w ↦ (
        ap (λ (l : List ℕ). corrected (listed (drop (k + 1) es)) l (locators 528)) w.line-is
            ∙ sym (turn_skip 528 es k e h c.error-item.is (lit≤ tt) e.place.within line w.if-error-ne0.false) ∙ c.loop-error.invariant.0,
        ap₂ ◌+◌ w.changed-is (ap (distance old) (sym (turn_skip 528 es k e h c.error-item.is (lit≤ tt) e.place.within old w.if-error-ne0.false))) ∙ c.loop-error.invariant.1,
        omega (arith, w.changed-is),
        apart.1,
        c.if-error-ne0.array_long,
      )
    ]

pub returns : goal.returns
returns c =
    let es : List Error = c.args.errors.now in
    let old : List ℕ = c.args.line.now in
    let k : ℕ = c.loop-error.error-index in
    let done : c.loop-error.line ≡ corrected (listed es) old (locators 528) =
    sym (turns_done 528 es c.loop-error.line k (omega arith)) ∙ c.loop-error.invariant.0 in
    let none : distance old (corrected (listed (drop k es)) old (locators 528)) ≡ 0 =
    ap (distance old) (turns_done 528 es old k (omega arith)) ∙ distance_self old in
    let count : c.loop-error.changed ≡ distance old (corrected (listed es) old (locators 528)) =
    sym (add-zero c.loop-error.changed) ∙ ap (λ (n : ℕ). c.loop-error.changed + n) (sym none) ∙ c.loop-error.invariant.1 in
    record {
      line = done;
      count = count ∙ ap (distance old) (sym done);
      few = omega arith;
    }
