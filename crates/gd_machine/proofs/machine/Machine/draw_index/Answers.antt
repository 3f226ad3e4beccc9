use Rattle.std.proofs.Common.{arith}
use Rattle.gd_base.specs.declared.meter.Meter.{Meter}
use Rattle.gd_machine.specs.Words.{machine_setup, machine_view}
use Rattle.gd_machine.proofs.Wholes.{facts_of}
use Rattle.gd_machine.proofs.machine.Machine.draw_index.Goals as goal

pub overflow_add-result : goal.overflow_add-result
overflow_add-result c =
    let f = facts_of (machine_setup c.args.self.now) (machine_view c.args.self.now) c.requires in
    let plays = f.totals Meter.GamesPlayed in
    let starts = f.totals Meter.PowerUps in
    omega (arith, plays, starts)
