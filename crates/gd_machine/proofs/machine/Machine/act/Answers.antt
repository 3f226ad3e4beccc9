use Rattle.gd_base.specs.declared.event.Event.{Event}
use Rattle.gd_machine.specs.Words.{machine_setup, machine_view}
use Rattle.gd_machine.proofs.Acted.{acted_as}
use Rattle.gd_machine.proofs.machine.Machine.act.Goals as goal

pub returns-in-Play-clause-view : goal.returns-in-Play-clause-view
returns-in-Play-clause-view c =
    acted_as (machine_setup c.args.self.now) (machine_view c.args.self.now) c.args.event.now (Event.Play c.in-Play.game c.in-Play.bet) c.args.draw.now (machine_view c.begin_play.new.self) c.begin_play.result
    c.in-Play.is c.begin_play.ensures.view
