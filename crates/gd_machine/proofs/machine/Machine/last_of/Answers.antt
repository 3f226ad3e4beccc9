use Rattle.std.proofs.Common.{◌∙◌, arith, ap}
use Rattle.gd_base.specs.declared.device.Device.{Device}
use Rattle.gd_base.specs.Histories.Devices.{kept_at}
use Rattle.gd_base.specs.Histories.Entry.{device_of}
use Rattle.gd_base.specs.Histories.Numbers.{device_place}
use Rattle.gd_machine.specs.Words.{machine_setup, machine_view}
use Rattle.gd_machine.proofs.Kept.{LastKept, last_within}
use Rattle.gd_machine.proofs.Wholes.{facts_of}
use Rattle.gd_machine.proofs.machine.Machine.last_of.Goals as goal

pub returns-clause-small : goal.returns-clause-small
returns-clause-small c =
    let v = machine_view c.args.self.now in
    let f = facts_of (machine_setup c.args.self.now) v c.requires in
    let le = last_within v (device_of c.args.event.now) f.rules in
    let is = ap (λ (k : LastKept). k.0) c.kept.ensures ∙ ap (λ (d : Device). (kept_at v.kept (device_place d)).0) c.device.ensures in
    omega (arith, is, le)
