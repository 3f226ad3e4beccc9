use Rattle.std.proofs.Common.{◌-◌}
use Rattle.gd_top.specs.Code.Memory.{moment_on}
use Rattle.gd_top.specs.declared.memory.TheConstants.{MOST_POWER_ONS}
use Rattle.gd_top.proofs.ItemLemmas.EventLoop.{EventPending}
use Rattle.gd_top.proofs.item.event.carry_event.Given as goal

-- cuts came in the event so far, and it is still to be answered
abbrev pub invariant-loop-answer : goal.invariant-loop-answer
invariant-loop-answer g l =
    let was = moment_on g.C.Core.meaning g.C.Core.view g.L.Disk.state g.W.Draws.block_of g.K.Sink.taken g.K.Sink.faults l.fn.cabinet l.fn.counts l.fn.output in
    let mid = moment_on g.C.Core.meaning g.C.Core.view g.L.Disk.state g.W.Draws.block_of g.K.Sink.taken g.K.Sink.faults l.cabinet l.counts l.output in
    record { pending : EventPending l.fn.e was mid }

-- each time it is told again the power was on once more
abbrev pub decreases-loop-answer : goal.decreases-loop-answer
decreases-loop-answer g l = MOST_POWER_ONS - l.counts.power_ons
