use Rattle.std.proofs.Common.{◌≡◌, ◌≤◌, ◌+◌, ◌*◌, Ok}
use Rattle.gd_top.specs.Code.Memory.{moment, Leaves}
use Rattle.gd_top.proofs.SoakLemmas.Items.{SoFar}
use Rattle.gd_top.proofs.command.soak.carry_items.Given as goal

-- the items of the places below were carried out, and the memory stands
abbrev pub invariant-loop-k : goal.invariant-loop-k
invariant-loop-k g l =
    let was = moment g.C.Core.meaning g.C.Core.view g.L.Disk.state g.W.Draws.block_of g.K.Sink.taken g.K.Sink.faults l.fn.memory l.fn.counts l.fn.output in
    let now = moment g.C.Core.meaning g.C.Core.view g.L.Disk.state g.W.Draws.block_of g.K.Sink.taken g.K.Sink.faults l.memory l.counts l.output in
    record {
      so_far : SoFar l.seed l.k was now;
      leaves : Leaves (Ok tt) was now;
      lines : l.counts.lines ≡ l.k;
      few : l.counts.offers ≤ l.k + 2 * l.counts.power_ons;
    }
