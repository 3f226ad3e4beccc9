use Rattle.std.proofs.Common.{◌<◌, ◌+◌, ◌∙◌, sym, ap, drop, length, get_or, set, length-set, arith}
use Rattle.gd_cards.proofs.Replaced.{all_exchanged, exchanged_kept, exchanged_replaced, same_kept, same_replaced, told_alike}
use Rattle.gd_cards.proofs.dealing.exchanged.Goals as goal
use Rattle.gd_cards.proofs.dealing.exchanged.Goals.{then-not-is_held, else-not-is_held}

pub bounds-next-used : goal.bounds-next-used
bounds-next-used c = omega (arith, c.loop-place.invariant.used_up)

pub loop-place-preserved : goal.loop-place-preserved
loop-place-preserved c =
    let loop = c.loop-place in
    let dealt = c.args.dealt.now in
    let next = c.args.next.now in
    let new = get_or next loop.used 0 in
    let c_in : loop.place < length loop.cards = omega (arith, loop.invariant.five) in
    let d_in : loop.place < length dealt = omega arith in
    let n_in : loop.used < length next = omega (arith, loop.invariant.used_up) in
    let same = loop.invariant.left in
    elim c.if-not-is_held.branch [
      | then-not-is_held w ↦
          record {
            five = ap length w.cards-is ∙ length-set loop.cards loop.place new ∙ loop.invariant.five;
            used_up = omega (arith, w.used-is, loop.invariant.used_up);
            left = ap (drop (loop.place + 1)) w.cards-is ∙ same_replaced loop.place loop.cards dealt c_in d_in same new;
            told =
                told_alike c.args.mask (loop.place + 1) (loop.used + 1) c.if-not-is_held.used (set loop.cards loop.place new) c.if-not-is_held.cards dealt next w.used-is w.cards-is
                (exchanged_replaced loop.place loop.cards dealt c_in d_in same c.args.mask loop.used next n_in (sym w.if-not-is_held.ensures.held) loop.invariant.told);
          }
      | else-not-is_held w ↦
          record {
            five = ap length w.cards-is ∙ loop.invariant.five;
            used_up = omega (arith, w.used-is, loop.invariant.used_up);
            left = ap (drop (loop.place + 1)) w.cards-is ∙ same_kept loop.place loop.cards dealt c_in d_in same;
            told =
                told_alike c.args.mask (loop.place + 1) loop.used c.if-not-is_held.used loop.cards c.if-not-is_held.cards dealt next w.used-is w.cards-is
                (exchanged_kept loop.place loop.cards dealt c_in d_in same c.args.mask loop.used next (sym w.if-not-is_held.ensures.held) loop.invariant.told);
          }
    ]

pub returns : goal.returns
returns c =
    let loop = c.loop-place in
    record {
      cards = all_exchanged c.args.mask loop.place loop.used loop.cards c.args.dealt.now c.args.next.now
          (omega (arith, loop.invariant.five, c.loop-place-test.false)) (omega (arith, c.loop-place-test.false)) loop.invariant.told;
    }
