-- The byte that is stored is the old one, cut below the TUI, with the level put above.
use Rattle.std.proofs.Common.{◌≡◌, ℕ, List, [], ◌∷◌, ◌++◌, ◌*◌, ◌%◌, ◌^◌, ap, ◌∙◌, arith}
use Rattle.std.proofs.lemmas.Nat.{one_shl}
use Rattle.std.specs.Int.{from_bool}
use Rattle.signal.proofs.Levels.{level_small}
use Rattle.signal.proofs.Sending.{sent_one}
use Rattle.signal.proofs.Sent.{sent_length}
use Rattle.signal.proofs.sender.Sender.send.Goals as goal

pub returns : goal.returns
returns c =
    let s = c.self.inside in
    let level = from_bool c.args.level in
    let long = sent_length s.line c.args.self.now s.sent (omega arith) c.self.invariant c.self.view_is in
    let e : (1 * 2 ^ (s.sent % 8)) % 256 ≡ 2 ^ (s.sent % 8) = one_shl (s.sent % 8) 8 (omega arith) in
    let one = sent_one s.line s.sent level (omega arith) (level_small c.args.level) ∙ ap (λ (l : List ℕ). l ++ level ∷ []) c.self.view_is in
    rw (e, c.from.ensures) one
