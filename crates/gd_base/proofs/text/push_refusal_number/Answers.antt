use Rattle.std.proofs.Common.{arith, length, decimal, ◌≤◌, ◌<◌, ◌^◌}
use Rattle.std.proofs.lemmas.Fmt.{length-decimal-le}
use Rattle.std.proofs.lemmas.List.{length-append}
use Rattle.gd_base.proofs.text.push_refusal_number.Goals as goal

pub returns-clause-room : goal.returns-clause-room
returns-clause-room c =
    let small : c.from.result < 10 ^ 2 = omega (arith, c.from.ensures, c.number.ensures.most) in
    let digits : length (decimal c.from.result) ≤ 2 = length-decimal-le 2 c.from.result (omega arith) small (omega (arith, small)) in
    grind (arith, c.push_number.ensures.bytes, length-append, digits)
