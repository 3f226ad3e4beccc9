use Rattle.std.proofs.Common.{ap, ◌∙◌}
use Rattle.gd_base.specs.declared.play.Choices.{Choices}
use Rattle.gd_base.specs.Games.Stage.{are_choices}
use Rattle.gd_play.proofs.Held.{open_choices}
use Rattle.gd_play.proofs.play_machine.open_phase.Goals as goal

pub stage-stage-requires-clause-choices : goal.stage-stage-requires-clause-choices
stage-stage-requires-clause-choices g c =
    let setup = g.P.Paytable.setup c.args.table.now in
    let p = c.in-Some.play in
    ap (λ (cs : Choices). are_choices setup p.game p.bet p.words cs) c.choices.ensures ∙ open_choices setup c.args.play.now p c.in-Some.is c.requires.rules
