use Rattle.std.proofs.Common.{◌∙◌, ap}
use Rattle.gd_base.specs.declared.play.Stage.{Stage}
use Rattle.gd_machine.proofs.Turns.{turn_win}
use Rattle.gd_machine.proofs.texts.turns.win_after.Goals as goal

pub returns : goal.returns
returns c = ap (λ (s : Stage). s.win) c.stage.ensures.stage ∙ turn_win c.args.setup.now c.args.play.now c.args.turn
