use Rattle.gd_base.specs.Judging.Answer.{answer, is_new}
use Rattle.gd_machine.specs.Meaning.{the_machine}
use Rattle.gd_machine.specs.Words.{machine_setup, machine_view}
use Rattle.gd_machine.proofs.Entries.{not_needed}
use Rattle.gd_machine.proofs.machine.Machine.needs_draw.Goals as goal

pub returns-in_default : goal.returns-in_default
returns-in_default c =
    let setup = machine_setup c.args.self.now in
    let v = machine_view c.args.self.now in
    not_needed setup v c.args.e.now.event (is_new (answer (the_machine setup) v c.args.e.now)) c.in_default.not-Play
