use Rattle.std.proofs.Common.{None}
use Rattle.gd_base.specs.declared.event.Event.{Event}
use Rattle.gd_machine.specs.Words.{machine_setup, machine_view}
use Rattle.gd_machine.proofs.Acted.{acted_as}
use Rattle.gd_machine.proofs.machine.Machine.act_undrawn.Goals as goal

pub returns-in-Gamble-clause-view : goal.returns-in-Gamble-clause-view
returns-in-Gamble-clause-view c =
    acted_as (machine_setup c.args.self.now) (machine_view c.args.self.now) c.args.event.now (Event.Gamble c.in-Gamble.colour) None (machine_view c.gamble.new.self) c.gamble.result c.in-Gamble.is c.gamble.ensures.view
