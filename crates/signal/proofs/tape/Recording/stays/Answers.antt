-- Where each TUI was seen at the level it has stayed, and one of another level breaks it.
use Rattle.std.proofs.Common.{◌≡◌, ℕ, ◌+◌, ◌<◌, get_or, sym, refl, ap, ◌∙◌, arith, rules}
use Rattle.std.proofs.lemmas.Iterator.{cases_from_all, YieldsList-from_range}
use Rattle.std.proofs.lemmas.List.FromFn.{get_or-range_with_len, length-range_with_len}
use Rattle.std.specs.List.{range_with_len}
use Rattle.std.specs.Int.{from_bool}
use Rattle.signal.specs.Tape.{tui}
use Rattle.signal.proofs.Seen.{when_weaker}
use Rattle.signal.proofs.Standing.{level_stands, stands_level}
use Rattle.signal.proofs.tape.Recording.stays.Goals as goal

pub returns : goal.returns
returns c =
    let bits = tui c.args.self.now in
    let p = c.args.place in
    let n = c.args.count in
    let v = from_bool c.args.level in
    let long = length-range_with_len p n in
    let at : (i : ℕ) → i < n → get_or bits (get_or (range_with_len p n) i 0) 0 ≡ get_or bits (p + i) 0 =
    λ i h. ap (λ (k : ℕ). get_or bits k 0) (get_or-range_with_len p n i 0 h) in
    when_weaker c.all.result
    (λ each. level_stands bits n v p (omega arith) (λ i h. sym (at i h) ∙ each i 0 (omega arith) (omega arith)))
    (λ other s. let h : other.0 < n = omega arith in other.2 0 (at other.0 h ∙ stands_level bits n v p other.0 s h))
    (cases_from_all _ _ c.all.result (λ k. get_or bits k 0 ≡ v) (λ k. get_or bits k 0 ≡ v → ⊥) c.all.ensures.ran
    (YieldsList-from_range p (p + n) n refl (omega arith)) (λ k f called. search rules) (λ k f called. search rules))
