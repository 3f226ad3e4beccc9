use Rattle.std.proofs.Common.{◌≡◌, length, arith}
use Rattle.gd_reels.proofs.Five.{row-five}
use Rattle.gd_reels.proofs.windows.row.Goals as goal

pub returns-clause-row : goal.returns-clause-row
returns-clause-row c =
    let strips : length c.args.strips.now ≡ 5 = omega arith in
    let stops : length c.args.stops.now ≡ 5 = omega arith in
    let letters = row-five c.args.below c.args.strips.now c.args.stops.now strips stops in
    cc (c.letter.ensures.value, c.letter-2.ensures.value, c.letter-3.ensures.value, c.letter-4.ensures.value, c.letter-5.ensures.value)
