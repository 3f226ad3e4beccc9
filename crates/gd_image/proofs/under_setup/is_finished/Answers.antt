use Rattle.std.proofs.Common.{◌∙◌, sym}
use Rattle.gd_image.proofs.Played.{ended_is, not_ended}
use Rattle.gd_image.proofs.under_setup.is_finished.Goals as goal

pub returns-in-Some : goal.returns-in-Some
returns-in-Some c = c.may_be_over.ensures ∙ ended_is c.args.setup.now c.args.play.now c.in-Some.phase (sym c.in-Some.is ∙ c.played.ensures.phase)

pub returns-in-None : goal.returns-in-None
returns-in-None c = not_ended c.args.setup.now c.args.play.now (sym c.in-None.is ∙ c.played.ensures.phase)
