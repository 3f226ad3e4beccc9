use Rattle.std.proofs.Common.{◌≡◌, ◌≤◌, ◌+◌, ◌*◌, Ok}
use Rattle.std.specs.Io.KnownBytes.{prepend_known}
use Rattle.gd_top.specs.Claims.ImageRuns.{TellsImages}
use Rattle.gd_top.specs.Code.Memory.{moment}
use Rattle.gd_top.specs.Code.OverImage.{Ends}
use Rattle.gd_top.proofs.OverLemmas.Lines.{SoFarOver}
use Rattle.gd_top.proofs.image.carrying.carry_lines.Given as goal

-- the lines that came were carried out, and the memory stands
abbrev pub invariant-loop : goal.invariant-loop
invariant-loop g l =
    let was = moment g.C.Core.meaning g.C.Core.view g.D.Disk.state g.W.Draws.block_of g.K.Sink.taken g.K.Sink.faults l.fn.memory l.fn.counts l.fn.output in
    let now = moment g.C.Core.meaning g.C.Core.view g.D.Disk.state g.W.Draws.block_of g.K.Sink.taken g.K.Sink.faults l.memory l.counts l.output in
    record {
      so_far : SoFarOver (TellsImages g.D.Disk.state) was now (g.S.Source.left l.fn.input) (prepend_known l.ahead (g.S.Source.left l.input));
      ends : Ends (Ok tt) was now;
      lines : l.counts.lines ≡ l.counter;
      offers : l.counts.offers ≤ 2 * l.counter + 1;
      power_ons : l.counts.power_ons ≤ l.counter + 1;
      laps : l.counts.lap ≤ l.counter + 1;
      reads : g.S.Source.faults l.fn.input ≤ g.S.Source.faults l.input;
    }
