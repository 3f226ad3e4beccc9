use Rattle.std.proofs.Common.{◌∙◌, sym}
use Rattle.gd_games.proofs.Chosen.{turned_is, unturned_is}
use Rattle.gd_games.proofs.plays.stage_if_chosen.Goals as goal

pub returns-in-Some : goal.returns-in-Some
returns-in-Some c =
    let good = sym c.may_choose.ensures ∙ c.if-not-may_choose.false in
    record { stage = c.stage_if_turned.ensures.stage ∙ turned_is c.args.setup.now c.args.play.now c.in-Some.base good c.requires.colours (sym c.in-Some.ensures.win) }

pub returns-in-None : goal.returns-in-None
returns-in-None c =
    let good = sym c.may_choose.ensures ∙ c.if-not-may_choose.false in
    record { stage = c.stage_unturned.ensures.stage ∙ unturned_is c.args.setup.now c.args.play.now good c.requires.colours (sym c.in-None.ensures.win) }
