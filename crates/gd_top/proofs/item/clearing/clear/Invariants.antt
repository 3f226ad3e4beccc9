use Rattle.std.proofs.Common.{◌≡◌, ◌≤◌, ◌<◌, ◌+◌, ◌*◌, length}
use Rattle.gd_top.specs.Code.Memory.{moment_closed, Fits, Sits}
use Rattle.gd_top.specs.Run.State.{Locked}
use Rattle.gd_top.specs.declared.memory.TheConstants.{MOST_POWER_ONS}
use Rattle.gd_top.proofs.ItemLemmas.Clearing.{ComesTo, clear_line, making_rest}
use Rattle.gd_top.proofs.item.clearing.clear.Given as goal

-- a making is still to be told, and the memory stands locked
abbrev pub invariant-loop-made : goal.invariant-loop-made
invariant-loop-made g l =
    let was = moment_closed Locked g.C.Core.meaning g.C.Core.view g.L.Disk.state g.W.Draws.block_of g.K.Sink.taken g.K.Sink.faults l.fn.parts l.fn.counts l.fn.output in
    let mid = moment_closed Locked g.C.Core.meaning g.C.Core.view g.L.Disk.state g.W.Draws.block_of g.K.Sink.taken g.K.Sink.faults l.parts l.counts l.output in
    record {
      comes : ComesTo clear_line making_rest (λ t. Fits t mid) was mid;
      sits : Sits mid;
      room : l.counts.power_ons + length (g.L.Disk.state l.parts.disk).armed < MOST_POWER_ONS;
      lines : l.counts.lines ≡ l.fn.counts.lines;
      offers : l.counts.offers + 2 * l.fn.counts.power_ons ≤ l.fn.counts.offers + 2 * l.counts.power_ons;
      more : l.fn.counts.power_ons ≤ l.counts.power_ons;
    }

abbrev pub decreases-loop-made : goal.decreases-loop-made
decreases-loop-made g l = length (g.L.Disk.state l.parts.disk).armed
