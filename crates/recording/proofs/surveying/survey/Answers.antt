-- Each turn counts the signal that is found, and the last search finds none; the laws follow from the count.
use Rattle.std.proofs.Common.{◌+◌, ◌*◌, ◌≤◌, length, Ok, sym, ◌∙◌, arith}
use Rattle.signal.specs.Signal.{bits_of}
use Rattle.signal.proofs.Bits.{length_bits}
use Rattle.signal.proofs.Once.{once}
use Rattle.recording.specs.Surveying.{Good, Surveyed}
use Rattle.recording.proofs.EndToEnd.{counts_once, counts_signals}
use Rattle.recording.proofs.Markers.{marker_fits}
use Rattle.recording.proofs.Counting.{sized_bytes, good_read, bad_read, good_fits, adds_good, adds_bad, adds_over, refused_markerless}
use Rattle.recording.proofs.surveying.survey.Goals as goal
use Rattle.recording.proofs.surveying.survey.Goals.{After-struct_known-1, After-struct_known-else-is_ok-1}

good_there : (c : After-struct_known-1) → Good (bits_of c.args.recording.now) c.in-Ok.start
good_there c = good_read c.args.recording.now c.in-Ok.start c.read.result (rw c.in_ok-whole.ensures at c.read.ensures) (sym c.is_ok.ensures.value ∙ c.if-is_ok.true)

good_room : (c : After-struct_known-1) → c.in-Ok.start + 4384 ≤ 8 * length c.args.recording.now
good_room c = omega (arith, good_fits (bits_of c.args.recording.now) c.in-Ok.start (good_there c), length_bits c.args.recording.now)

bad_there : (c : After-struct_known-else-is_ok-1) → Good (bits_of c.args.recording.now) c.in-Ok.start → ⊥
bad_there c = bad_read c.args.recording.now c.in-Ok.start c.read.result (sized_bytes c.in_ok-whole.whole c.args.recording.now c.in_ok-whole.ensures) (λ other o. once c.args.recording.now c.in-Ok.start c.read.result other (rw c.in_ok-whole.ensures at c.read.ensures) o) (sym c.is_ok.ensures.value ∙ c.if-is_ok.false)

bad_room : (c : After-struct_known-else-is_ok-1) → c.in-Ok.start + 32 ≤ 8 * length c.args.recording.now
bad_room c = omega (arith, marker_fits (bits_of c.args.recording.now) c.in-Ok.start c.in-Ok.ensures.1.marked, length_bits c.args.recording.now)

pub overflow_add-place : goal.overflow_add-place
overflow_add-place c = let room = good_room c in omega (arith, sized_bytes c.in_ok-whole.whole c.args.recording.now c.in_ok-whole.ensures)

pub loop-start-smaller-then-is_ok : goal.loop-start-smaller-then-is_ok
loop-start-smaller-then-is_ok c = let room = good_room c in omega (arith, c.in-Ok.ensures.1.after)

pub loop-start-preserved-then-is_ok : goal.loop-start-preserved-then-is_ok
loop-start-preserved-then-is_ok c =
    let room = good_room c in
    let after = c.in-Ok.ensures.1.after in
    let counted = c.loop-start.invariant.1 in (
      room,
      omega arith,
      adds_good (bits_of c.args.recording.now) c.loop-start.place c.in-Ok.start c.loop-start.survey.good c.loop-start.survey.bad c.loop-start.invariant.2 c.in-Ok.ensures.1 (good_there c),
    )

pub overflow_add-place-else-is_ok : goal.overflow_add-place-else-is_ok
overflow_add-place-else-is_ok c = let room = bad_room c in omega (arith, sized_bytes c.in_ok-whole.whole c.args.recording.now c.in_ok-whole.ensures)

pub loop-start-smaller : goal.loop-start-smaller
loop-start-smaller c = let room = bad_room c in omega (arith, c.in-Ok.ensures.1.after)

pub loop-start-preserved : goal.loop-start-preserved
loop-start-preserved c =
    let room = bad_room c in
    let after = c.in-Ok.ensures.1.after in
    let counted = c.loop-start.invariant.1 in (
      room,
      omega arith,
      adds_bad (bits_of c.args.recording.now) c.loop-start.place c.in-Ok.start c.loop-start.survey.good c.loop-start.survey.bad c.loop-start.invariant.2 c.in-Ok.ensures.1 (bad_there c),
    )

pub returns : goal.returns
returns c =
    let recording = c.args.recording.now in
    let sized = sized_bytes c.in_ok-whole.whole recording c.in_ok-whole.ensures in
    let none = refused_markerless recording c.loop-start.place c.in_default.field-0 c.in_default.ensures sized in
    let answer = Ok c.loop-start.survey in
    let counted : Surveyed recording answer = (sized, adds_over (bits_of recording) c.loop-start.place c.loop-start.survey.good c.loop-start.survey.bad c.loop-start.invariant.2 none) in
    record { answer = counted; only = λ other o. counts_once recording answer other counted o; signals = counts_signals recording answer counted }
