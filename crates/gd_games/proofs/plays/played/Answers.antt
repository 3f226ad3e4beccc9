use Rattle.std.proofs.Common.{◌∙◌, sym}
use Rattle.gd_base.proofs.BoolTests.{is_equal}
use Rattle.gd_base.specs.Histories.Credit.{wager}
use Rattle.gd_games.proofs.Chosen.{won_is}
use Rattle.gd_games.proofs.plays.played.Goals as goal

pub returns-in-Some : goal.returns-in-Some
returns-in-Some c =
    let p = c.args.play.now in
    let paid = is_equal p.wager (wager c.args.setup.now p.bet) (c.if-play-wager.false ∙ c.wager.ensures) in
    record { phase = c.phase_if_won.ensures ∙ won_is c.args.setup.now p c.in-Some.stage paid (sym c.in-Some.ensures.stage) }
