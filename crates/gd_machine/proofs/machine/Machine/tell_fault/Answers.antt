use Rattle.std.proofs.Common.{◌∙◌}
use Rattle.gd_machine.proofs.Faults.{fault_told}
use Rattle.gd_machine.proofs.Wholes.{facts_of}
use Rattle.gd_machine.specs.Words.{machine_setup, machine_view}
use Rattle.gd_machine.proofs.machine.Machine.tell_fault.Goals as goal

pub returns-clause-view : goal.returns-clause-view
returns-clause-view c =
    let setup = machine_setup c.args.self.now in
    let v = machine_view c.args.self.now in
    let f = facts_of setup v c.requires.whole in
    c.raise.ensures.view ∙ fault_told setup v f.itself f.rules.tilts c.args.tilt c.args.event.now c.requires.tilt
