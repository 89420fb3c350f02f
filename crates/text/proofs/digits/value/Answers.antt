use Rattle.std.proofs.Common.{rules, ◌≡◌, ◌+◌, ◌*◌, ◌^◌, ◌<◌, length, unwrap_or, arith}
use Rattle.std.proofs.iter.Yields.{serves_by}
use Rattle.text.specs.Text.{hex_digit}
use Rattle.text.proofs.Numbers.{one_more, room_left}
use Rattle.text.proofs.digits.value.Goals as goal

pub fold-requires-clause-callable : goal.fold-requires-clause-callable
fold-requires-clause-callable c =
    serves_by _ (λ xs q. q.1 < 16 ^ length xs)
    (λ xs q x v j r. let e : v.1 ≡ q.1 * 16 + unwrap_or (hex_digit x.now) 0 = search rules in one_more xs x q.1 v.1 j e)
    _ _ _ _ (omega arith)
    (λ xs t q x u y e j. let h = room_left xs c.iter.result t u x q.1 c.args.digits.now c.iter.ensures.rest c.requires y e j in search rules)
