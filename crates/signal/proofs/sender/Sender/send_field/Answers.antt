-- One more cell at each turn, until the field is sent whole.
use Rattle.std.proofs.Common.{◌≡◌, ℕ, ◌+◌, ◌-◌, ◌/◌, ◌%◌, ◌^◌, List, ◌++◌, length, take, sym, ap, ◌∙◌, arith, length-append, take_all}
use Rattle.std.proofs.lemmas.List.{append-nil}
use Rattle.std.specs.Int.{from_bool}
use Rattle.signal.specs.Signal.{cells, field}
use Rattle.signal.specs.Inner.{level_before}
use Rattle.signal.proofs.Cells.{length_cell}
use Rattle.signal.proofs.FieldBits.{length_highest}
use Rattle.signal.proofs.Sent.{sent_cell}
use Rattle.signal.proofs.sender.Sender.send_field.Goals as goal

pub loop-k-init : goal.loop-k-init
unfolding cells
loop-k-init c = (omega arith, sym (append-nil c.args.self.now))

pub loop-k-preserved : goal.loop-k-preserved
loop-k-preserved c =
    let k = c.loop-k.k in
    let was = c.loop-k.self in
    let base = c.args.self.now in
    let x = c.args.field in
    let bit = from_bool c.bit.result in
    let long = ap length c.send_cell.ensures ∙ length-append was _ ∙ ap (λ (n : ℕ). length was + n) (length_cell (level_before was (length was)) bit) in
    let place : k - 1 ≡ 15 - (16 - k) = omega arith in
    let here : bit ≡ x / 2 ^ (15 - (16 - k)) % 2 = c.bit.ensures ∙ ap (λ (j : ℕ). x / 2 ^ j % 2) place in
    let next : 16 - k + 1 ≡ 16 - (k - 1) = omega arith in
    let before = c.loop-k.invariant.0 in (
      omega arith,
      sent_cell was c.send_cell.new.self base (16 - k) x bit (omega arith) (omega arith) c.loop-k.invariant.1 c.send_cell.ensures here
          ∙ ap (λ (n : ℕ). base ++ cells (level_before base (length base)) (take n (field x))) next,
    )

pub returns : goal.returns
returns c =
    let base = c.args.self.now in
    let n : 16 - c.loop-k.k ≡ 16 = omega arith in
    c.loop-k.invariant.1 ∙ ap (λ (j : ℕ). base ++ cells (level_before base (length base)) (take j (field c.args.field))) n
    ∙ ap (λ (l : List ℕ). base ++ cells (level_before base (length base)) l) (take_all 16 (field c.args.field) (omega (arith, length_highest 16 c.args.field)))
