use Rattle.std.proofs.Common.{◌≡◌, ◌∙◌, ap, refl, subst, Result, Ok, false}
use Rattle.gd_top.specs.Code.Memory.{moment, moment_closed, Opens}
use Rattle.gd_top.specs.Run.State.{Off}
use Rattle.gd_top.specs.declared.halt.Halt.{Halt}
use Rattle.gd_top.specs.declared.item.opening.Opened.{Opened}
use Rattle.gd_top.proofs.ItemLemmas.Reopening.{HasFallen, at_last, in_vain, none_fell, one_fell}
use Rattle.gd_top.proofs.item.opening.reopen.Goals as goal

ok_is : (r : Result Opened Halt) (kind found : Opened) → r ≡ Ok found → found ≡ kind → r ≡ Ok kind
ok_is r kind found is also = is ∙ ap (λ (k : Opened). let o : Result Opened Halt = Ok k in o) also

pub loop-memory-init : goal.loop-memory-init
loop-memory-init g c = record {
  so_far = none_fell (moment_closed Off g.C.Core.meaning g.C.Core.view g.L.Disk.state g.W.Draws.block_of g.K.Sink.taken g.K.Sink.faults c.args.parts c.args.counts.now c.args.output.now) c.requires.down;
  lines = refl;
}

pub returns-in-Ok-Stands-clause-does : goal.returns-in-Ok-Stands-clause-does
returns-in-Ok-Stands-clause-does g c =
    let was = moment_closed Off g.C.Core.meaning g.C.Core.view g.L.Disk.state g.W.Draws.block_of g.K.Sink.taken g.K.Sink.faults c.args.parts c.args.counts.now c.args.output.now in
    let mid = moment_closed Off g.C.Core.meaning g.C.Core.view g.L.Disk.state g.W.Draws.block_of g.K.Sink.taken g.K.Sink.faults c.loop-memory.parts c.loop-memory.counts c.loop-memory.output in
    let now = moment g.C.Core.meaning g.C.Core.view g.L.Disk.state g.W.Draws.block_of g.K.Sink.taken g.K.Sink.faults c.open_once-memory.result.0 c.open_once-memory.new.counts c.open_once-memory.new.output in
    at_last was mid now c.loop-memory.invariant.so_far
    (subst (λ r. Opens false r mid now) (ok_is c.open_once-memory.result.1 Opened.Stands c.in-Ok-Stands.field-0 c.in-Ok-Stands.is (rw c.in-Ok-Stands.is at c.in-Ok-Stands.field-0-is)) c.open_once-memory.ensures.does)

pub loop-memory-preserved : goal.loop-memory-preserved
loop-memory-preserved g c =
    let was = moment_closed Off g.C.Core.meaning g.C.Core.view g.L.Disk.state g.W.Draws.block_of g.K.Sink.taken g.K.Sink.faults c.args.parts c.args.counts.now c.args.output.now in
    let mid = moment_closed Off g.C.Core.meaning g.C.Core.view g.L.Disk.state g.W.Draws.block_of g.K.Sink.taken g.K.Sink.faults c.loop-memory.parts c.loop-memory.counts c.loop-memory.output in
    let now = moment g.C.Core.meaning g.C.Core.view g.L.Disk.state g.W.Draws.block_of g.K.Sink.taken g.K.Sink.faults c.open_once-memory.result.0 c.open_once-memory.new.counts c.open_once-memory.new.output in
    record {
      so_far = subst
          (λ m. HasFallen was (moment g.C.Core.meaning g.C.Core.view g.L.Disk.state g.W.Draws.block_of g.K.Sink.taken g.K.Sink.faults m c.open_once-memory.new.counts c.open_once-memory.new.output)) c.in-Off.is
          (one_fell was mid now c.loop-memory.invariant.so_far
          (subst (λ r. Opens false r mid now) (ok_is c.open_once-memory.result.1 Opened.Fell c.in-Ok-Fell.field-0 c.in-Ok-Fell.is (rw c.in-Ok-Fell.is at c.in-Ok-Fell.field-0-is)) c.open_once-memory.ensures.does));
      lines = c.open_once-memory.ensures.lines ∙ c.loop-memory.invariant.lines;
    }

pub returns-in-Err-clause-does : goal.returns-in-Err-clause-does
returns-in-Err-clause-does g c =
    let was = moment_closed Off g.C.Core.meaning g.C.Core.view g.L.Disk.state g.W.Draws.block_of g.K.Sink.taken g.K.Sink.faults c.args.parts c.args.counts.now c.args.output.now in
    let mid = moment_closed Off g.C.Core.meaning g.C.Core.view g.L.Disk.state g.W.Draws.block_of g.K.Sink.taken g.K.Sink.faults c.loop-memory.parts c.loop-memory.counts c.loop-memory.output in
    let now = moment g.C.Core.meaning g.C.Core.view g.L.Disk.state g.W.Draws.block_of g.K.Sink.taken g.K.Sink.faults c.open_once-memory.result.0 c.open_once-memory.new.counts c.open_once-memory.new.output in
    in_vain was mid now c.loop-memory.invariant.so_far c.in-Err.halt (subst (λ r. Opens false r mid now) c.in-Err.is c.open_once-memory.ensures.does)
