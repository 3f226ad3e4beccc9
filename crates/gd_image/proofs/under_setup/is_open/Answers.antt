use Rattle.std.proofs.Common.{◌∙◌, sym}
use Rattle.gd_image.proofs.Played.{going_is, not_going}
use Rattle.gd_image.proofs.under_setup.is_open.Goals as goal

pub returns-in-Some : goal.returns-in-Some
returns-in-Some c = c.is_going_on.ensures ∙ going_is c.args.setup.now c.args.play.now c.in-Some.phase (sym c.in-Some.is ∙ c.played.ensures.phase)

pub returns-in-None : goal.returns-in-None
returns-in-None c = not_going c.args.setup.now c.args.play.now (sym c.in-None.is ∙ c.played.ensures.phase)
