-- The two halves that were seen make the cell, and a cell has two such halves.
use Rattle.std.proofs.Common.{◌≡◌, ℕ, ◌+◌, ◌-◌, get_or, not, replicate, MatchBool, sym, ap, ◌∙◌, subst}
use Rattle.std.specs.Int.{from_bool}
use Rattle.signal.specs.Signal.{Stands, turned}
use Rattle.signal.specs.Tape.{tui}
use Rattle.signal.proofs.Levels.{level_small, other_level, differing}
use Rattle.signal.proofs.Seen.{cell_seen, cell_first, cell_second, when_weaker, false_when, then_some_when}
use Rattle.signal.proofs.tape.Recording.cell_at.Goals as goal
use Rattle.signal.proofs.tape.Recording.cell_at.Goals.{then-stays, else-stays}

pub returns : goal.returns
returns c =
    let bits = tui c.args.self.now in
    let p = c.args.place in
    let first = not c.level_at-first.result in
    let second = c.level_at-second.result in
    let turn : from_bool first ≡ turned (get_or bits (p - 1) 0) 1 = other_level c.level_at-first.result ∙ ap (λ (x : ℕ). turned x 1) c.level_at-first.ensures in
    let Both = Stands (replicate 4 (from_bool first)) bits p × Stands (replicate 4 (from_bool second)) bits (p + 4) in
    let seen : MatchBool c.if-stays.whole Both (Both → ⊥) =
    elim c.if-stays.branch [
      | then-stays w ↦ rw w.whole-is (when_weaker w.stays-whole.result (λ s. (w.if-stays.ensures, s)) (λ no s. no s.1) w.stays-whole.ensures)
      | else-stays w ↦ false_when c.if-stays.whole Both (w.whole-is ∙ w.if-stays.false) (λ s. w.if-stays.ensures s.0)
    ] in
    rw c.then_some.ensures (then_some_when c.if-stays.whole _ _ _
    (when_weaker c.if-stays.whole
    (λ s. cell_seen bits p _ (from_bool first) (from_bool second) _ turn (level_small second) (differing first second) s.0 s.1)
    (λ no bit s. no (
      subst (λ (x : ℕ). Stands (replicate 4 x) bits p) (sym turn) (cell_first bits p _ bit s),
      subst (λ (x : ℕ). Stands (replicate 4 x) bits (p + 4)) (sym c.level_at-second.ensures) (cell_second bits p _ bit s),
    ))
    seen))
