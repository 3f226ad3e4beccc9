use Rattle.std.proofs.Common.{◌≡◌, ◌≤◌, ◌+◌, ◌*◌, Ok}
use Rattle.std.specs.Io.KnownBytes.{prepend_known}
use Rattle.gd_top.specs.Code.LinesDone.{LinesSoFar}
use Rattle.gd_top.specs.Code.Memory.{moment, outside, Fits, Leaves}
use Rattle.gd_top.specs.Code.Standing.{Standing}
use Rattle.gd_top.specs.Run.Items.{lines_meaning}
use Rattle.gd_top.proofs.script.carrying.carry_lines.Given as goal

-- the lines that came were carried out, and the memory stands
abbrev pub invariant-loop : goal.invariant-loop
invariant-loop g l =
    let was = moment g.C.Core.meaning g.C.Core.view g.L.Disk.state g.W.Draws.block_of g.K.Sink.taken g.K.Sink.faults l.fn.memory l.fn.counts l.fn.output in
    let now = moment g.C.Core.meaning g.C.Core.view g.L.Disk.state g.W.Draws.block_of g.K.Sink.taken g.K.Sink.faults l.memory l.counts l.output in
    record {
      so_far : (s : Standing g.C.Core.View) → Fits s was → (t : Standing g.C.Core.View) × Fits t now
          × LinesSoFar was.machine (lines_meaning was.machine was.blocks) s t (outside was) (outside now) (g.S.Source.left l.fn.input) (prepend_known l.ahead (g.S.Source.left l.input));
      leaves : Leaves (Ok tt) was now;
      lines : l.counts.lines ≡ l.counter;
      few : l.counts.offers ≤ l.counter + 2 * l.counts.power_ons;
      reads : g.S.Source.faults l.fn.input ≤ g.S.Source.faults l.input;
    }
