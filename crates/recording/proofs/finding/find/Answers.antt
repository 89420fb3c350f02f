-- A place whose TUI differ from the marker's has none; past the last place where one fits there is none either.
use Rattle.std.proofs.Common.{◌≡◌, ℕ, ◌+◌, ◌≤◌, List, Ok, get_or, sym, refl, ap, ◌∙◌, subst, arith, below_more}
use Rattle.training.specs.declared.refusals.TrainingRefusal.TheVariants.{NothingFound}
use Rattle.std.specs.Int.{from_bool}
use Rattle.signal.specs.Signal.{marker}
use Rattle.signal.specs.Calls.{Marked}
use Rattle.signal.specs.Tape.{tui}
use Rattle.signal.proofs.Levels.{found_same, found_different}
use Rattle.recording.specs.Finding.{Found, FindRefused}
use Rattle.recording.proofs.Markers.{level_of_marker, marker_fits, marker_place, marker_stands}
use Rattle.recording.proofs.finding.find.Goals as goal
use Rattle.recording.proofs.finding.find.Goals.{then-end-lt-MARKER_TUI-via-then-end-lt-MARKER_TUI, then-end-lt-MARKER_TUI-via-else-end-lt-MARKER_TUI+then-place-end}

pub returns-then-end-lt-MARKER_TUI : goal.returns-then-end-lt-MARKER_TUI
returns-then-end-lt-MARKER_TUI c =
    let r = c.in_ok-recording.recording in
    let start = c.args.start in
    subst (λ (bytes : List ℕ). FindRefused bytes start (NothingFound start)) c.in_ok-recording.ensures (
      refl,
      r.sized,
      λ q h m.
          let fits = marker_fits (tui r) q m in
          elim c.then-end-lt-MARKER_TUI.branch [
            | then-end-lt-MARKER_TUI-via-then-end-lt-MARKER_TUI w ↦ omega arith
            | then-end-lt-MARKER_TUI-via-else-end-lt-MARKER_TUI+then-place-end w ↦ c.search.invariant.1 q h (omega arith) m
          ],
    )

pub search-preserved : goal.search-preserved
search-preserved c =
    let bits = tui c.in_ok-recording.recording in
    let p = c.loop-k.place in
    let k = c.loop-k.k in
    let here : c.args.start ≤ p → Marked bits p → ⊥ =
    λ h m. found_different c.level_at.result _ c.if-level_at-level.true (c.level_at.ensures ∙ marker_place bits p k m (omega arith) ∙ sym (level_of_marker k)) in (
      omega arith,
      λ q h l m. below_more (λ r. c.args.start ≤ r → Marked bits r → ⊥) p (λ r rl rh rm. c.search.invariant.1 r rh (omega arith) rm) here q l h m,
    )

pub loop-k-preserved : goal.loop-k-preserved
loop-k-preserved c =
    let bits = tui c.in_ok-recording.recording in
    let k = c.loop-k.k in
    let p = c.search.place in
    let same = c.loop-k.invariant.0 in
    let level : get_or bits (p + k) 0 ≡ get_or marker k 0 =
    ap (λ (q : ℕ). get_or bits (q + k) 0) (sym same) ∙ sym c.level_at.ensures
    ∙ ap from_bool (found_same c.level_at.result _ c.if-level_at-level.false) ∙ level_of_marker k in
    (same, below_more (λ j. get_or bits (p + j) 0 ≡ get_or marker j 0) k c.loop-k.invariant.1 level)

pub returns : goal.returns
returns c =
    let r = c.in_ok-recording.recording in
    let bits = tui r in
    let same = c.loop-k.invariant.0 in
    subst (λ (bytes : List ℕ). Found bytes c.args.start (Ok c.loop-k.place)) c.in_ok-recording.ensures (
      r.sized,
      record {
        after = omega arith;
        marked = marker_stands bits c.loop-k.place (omega arith) (λ k h. ap (λ (p : ℕ). get_or bits (p + k) 0) same ∙ c.loop-k.invariant.1 k (omega arith));
        first = λ q h l m. c.search.invariant.1 q h (omega arith) m;
      },
    )
