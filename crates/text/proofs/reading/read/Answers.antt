use Rattle.std.proofs.Common.{◌+◌, ◌-◌, take, set, None, refl, ap, ◌∙◌, arith}
use Rattle.std.proofs.lemmas.Bool.Decides.{nat_tests}
use Rattle.std.proofs.lemmas.List.{length-set}
use Rattle.std.proofs.lemmas.Result.{err_from_is_err_and}
use Rattle.words.specs.Words.{raws}
use Rattle.text.specs.Text.{rows}
use Rattle.text.specs.Reading.{before}
use Rattle.text.proofs.Steps.{none_read, row_read, row_refused, row_missing, rows_done, rows_beyond, faultless}
use Rattle.text.proofs.reading.read.Goals as goal

pub loop-row-init : goal.loop-row-init
loop-row-init c = (refl, none_read c.args.text.now c.behind-rest.result.now (faultless None _ c.in_ok-names.field-0 c.in_ok-names.ensures) c.behind-rest.ensures)

pub returns-then-is_empty : goal.returns-then-is_empty
returns-then-is_empty c =
    let e = c.if-is_empty.ensures in
    row_missing c.loop-row.row c.loop-row.place-items c.loop-row.rest.now _ c.loop-row.invariant.1 c.loop-row-test.true (grind (arith, nat_tests))

pub returns-in_err-place : goal.returns-in_err-place
returns-in_err-place c =
    let e = c.if-is_empty.ensures in
    let p = err_from_is_err_and c.from_residual-in_err-place.result c.from_residual-in_err-place.ensures.1 in
    rw (p.1, p.2)
    (row_refused c.loop-row.row c.loop-row.place-items c.loop-row.rest.now _ c.loop-row.invariant.1 c.in_err-place.field-0.0 c.loop-row-test.true (grind (arith, nat_tests)) c.in_err-place.ensures)

pub loop-row-preserved : goal.loop-row-preserved
loop-row-preserved c =
    let e = c.if-is_empty.ensures in (
      length-set _ _ _ ∙ c.loop-row.invariant.0,
      ap (λ bs. before (raws (take (c.loop-row.row + 1) (set c.loop-row.place-items c.loop-row.row c.in_ok-place.field-0))) (rows (c.loop-row.row + 1) (80 - (c.loop-row.row + 1)) bs)) c.behind-rest-in-loop-row.ensures
          ∙ row_read c.loop-row.row c.loop-row.place-items c.loop-row.rest.now _ c.loop-row.invariant.1 c.in_ok-place.field-0 c.loop-row-test.true c.loop-row.invariant.0 (grind (arith, nat_tests)) c.in_ok-place.ensures,
    )

pub returns-then-is_empty-2 : goal.returns-then-is_empty-2
returns-then-is_empty-2 c =
    let e = c.if-is_empty-2.ensures in
    rows_done c.loop-row.row c.loop-row.place-items c.loop-row.rest.now _ c.loop-row.invariant.1 c.loop-row-test.false c.loop-row.invariant.0 (grind (arith, nat_tests))

pub returns-else-is_empty-2 : goal.returns-else-is_empty-2
returns-else-is_empty-2 c =
    let e = c.if-is_empty-2.ensures in
    rows_beyond c.loop-row.row c.loop-row.place-items c.loop-row.rest.now _ c.loop-row.invariant.1 c.loop-row-test.false (omega arith) (grind (arith, nat_tests))
