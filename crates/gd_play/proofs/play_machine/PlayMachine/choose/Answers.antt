use Rattle.gd_play.proofs.Held.{choice_kept}
use Rattle.gd_play.proofs.play_machine.PlayMachine.choose.Goals as goal

pub go_on-requires-clause-choices : goal.go_on-requires-clause-choices
go_on-requires-clause-choices g c =
    let now = c.args.self.now in
    choice_kept (g.P.Paytable.setup now.table) now.play c.in-Some.play now.phase c.args.event.now c.in-Some-choice_of.choice
    c.in-Some.is now.kept c.requires c.in-Some-choice_of.ensures
