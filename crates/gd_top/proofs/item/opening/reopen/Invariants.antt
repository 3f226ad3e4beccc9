use Rattle.std.proofs.Common.{◌≡◌, length}
use Rattle.gd_top.specs.Code.Memory.{moment_closed}
use Rattle.gd_top.specs.Run.State.{Off}
use Rattle.gd_top.proofs.ItemLemmas.Reopening.{HasFallen}
use Rattle.gd_top.proofs.item.opening.reopen.Given as goal

-- the power fell in each opening so far
abbrev pub invariant-loop-memory : goal.invariant-loop-memory
invariant-loop-memory g l =
    let was = moment_closed Off g.C.Core.meaning g.C.Core.view g.L.Disk.state g.W.Draws.block_of g.K.Sink.taken g.K.Sink.faults l.fn.parts l.fn.counts l.fn.output in
    let now = moment_closed Off g.C.Core.meaning g.C.Core.view g.L.Disk.state g.W.Draws.block_of g.K.Sink.taken g.K.Sink.faults l.parts l.counts l.output in
    record {
      so_far : HasFallen was now;
      lines : l.counts.lines ≡ l.fn.counts.lines;
    }

-- with each cut one less is armed
abbrev pub decreases-loop-memory : goal.decreases-loop-memory
decreases-loop-memory g l = length (g.L.Disk.state l.parts.disk).armed
