use Rattle.std.proofs.Common.{◌∙◌, sym, ap, Some, ℕ, ◌*◌}
use Rattle.gd_base.specs.declared.game.Game.{Game}
use Rattle.gd_base.specs.Games.Stage.{base_win}
use Rattle.gd_base.specs.Games.Chance.{final_hand, hand_pay, rank}
use Rattle.gd_games.proofs.poker.poker_win.Goals as goal

pub returns-in-Some-clause-win : goal.returns-in-Some-clause-win
returns-in-Some-clause-win c =
    let setup = c.args.setup.now in
    let hand = c.replace-hand.ensures.of_deal c.deal.ensures.cards in
    let pay = c.from.ensures ∙ c.hand_pay-pay.ensures.pay ∙ ap (hand_pay setup) (c.rank.ensures.rank ∙ ap rank hand) in
    let all = ap (λ (n : ℕ). n * c.from-in-Some.result) pay ∙ ap (λ (n : ℕ). hand_pay setup (rank (final_hand c.args.words.now c.in-Some.mask)) * n) c.from-in-Some.ensures in
    ap Some (c.in_cents.ensures.cents ∙ ap (λ (n : ℕ). n * setup.denom) all)
    ∙ ap (base_win setup Game.Poker c.args.bet c.args.words.now) (sym c.in-Some.is)
