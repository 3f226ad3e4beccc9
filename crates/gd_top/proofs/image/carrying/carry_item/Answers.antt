use Rattle.std.proofs.Common.{◌∙◌, sym, subst, refl, Err}
use Rattle.gd_script.specs.declared.item.Item.{Item}
use Rattle.gd_top.specs.Claims.ImageRuns.{TellsImages}
use Rattle.gd_top.specs.Code.Memory.{moment, moment_on, moment_closed}
use Rattle.gd_top.specs.Code.OverImage.{Rests, over}
use Rattle.gd_top.specs.Report.Lines.{locked_line}
use Rattle.gd_top.specs.Run.Items.{item_meaning}
use Rattle.gd_top.specs.Run.State.{Locked}
use Rattle.gd_top.specs.declared.halt.Halt.{Halt}
use Rattle.gd_top.specs.declared.memory.Memory.{Memory}
use Rattle.gd_top.proofs.ItemLemmas.PowerLines.{lock_tells, no_place_over, no_place_shut}
use Rattle.gd_top.proofs.OverLemmas.Items.{over_by, says_over, stops_over}
use Rattle.gd_top.proofs.RunLemmas.Standings.{stand}
use Rattle.gd_top.proofs.image.carrying.carry_item.Goals as goal

pub returns-then-needs_memory-clause-does : goal.returns-then-needs_memory-clause-does
returns-then-needs_memory-clause-does g c =
    let now = moment g.C.Core.meaning g.C.Core.view g.D.Disk.state g.W.Draws.block_of g.K.Sink.taken g.K.Sink.faults c.carry_asked.result.0 c.carry_asked.new.counts c.carry_asked.new.output in
    over_by (TellsImages g.D.Disk.state) (λ memory. moment g.C.Core.meaning g.C.Core.view g.D.Disk.state g.W.Draws.block_of g.K.Sink.taken g.K.Sink.faults memory c.args.counts.now c.args.output.now) c.args.memory (Memory.On c.in-On.cabinet) c.in-On.is
    c.carry_asked.result.1 now c.args.item c.args.item refl c.carry_asked.ensures.does

pub returns-else-needs_memory-clause-does : goal.returns-else-needs_memory-clause-does
returns-else-needs_memory-clause-does g c =
    let k = c.args.counts.now in
    let was = moment_on g.C.Core.meaning g.C.Core.view g.D.Disk.state g.W.Draws.block_of g.K.Sink.taken g.K.Sink.faults c.in-On.cabinet k c.args.output.now in
    over_by (TellsImages g.D.Disk.state) (λ memory. moment g.C.Core.meaning g.C.Core.view g.D.Disk.state g.W.Draws.block_of g.K.Sink.taken g.K.Sink.faults memory c.args.counts.now c.args.output.now) c.args.memory (Memory.On c.in-On.cabinet) c.in-On.is
    (Err Halt.ScriptFault) was c.args.item c.args.item refl
    (stops_over (TellsImages g.D.Disk.state) was (subst (λ memory. Rests (moment g.C.Core.meaning g.C.Core.view g.D.Disk.state g.W.Draws.block_of g.K.Sink.taken g.K.Sink.faults memory c.args.counts.now c.args.output.now)) c.in-On.is c.requires.rests) c.args.item
    (λ images s x. no_place_over was.machine was.blocks k.lap c.args.item (sym c.needs_memory.ensures ∙ c.if-needs_memory.false) c.requires.no_comment was.view (stand s (over images was)) x refl))

pub returns-in-Clear-clause-does : goal.returns-in-Clear-clause-does
returns-in-Clear-clause-does g c =
    let now = moment g.C.Core.meaning g.C.Core.view g.D.Disk.state g.W.Draws.block_of g.K.Sink.taken g.K.Sink.faults c.clear.result.0 c.clear.new.counts c.clear.new.output in
    over_by (TellsImages g.D.Disk.state) (λ memory. moment g.C.Core.meaning g.C.Core.view g.D.Disk.state g.W.Draws.block_of g.K.Sink.taken g.K.Sink.faults memory c.args.counts.now c.args.output.now) c.args.memory (Memory.Locked c.in-Locked.parts) c.in-Locked.is
    c.clear.result.1 now c.args.item Item.Clear c.in-Clear.is c.clear.ensures.does

pub returns-then-needs_memory-2-clause-does : goal.returns-then-needs_memory-2-clause-does
returns-then-needs_memory-2-clause-does g c =
    let k = c.args.counts.now in
    let was = moment_closed Locked g.C.Core.meaning g.C.Core.view g.D.Disk.state g.W.Draws.block_of g.K.Sink.taken g.K.Sink.faults c.in-Locked.parts k c.args.output.now in
    let now = moment_closed Locked g.C.Core.meaning g.C.Core.view g.D.Disk.state g.W.Draws.block_of g.K.Sink.taken g.K.Sink.faults c.in-Locked.parts k c.tell_lock-given.new.output in
    let given = c.tell_lock-given.ensures in
    over_by (TellsImages g.D.Disk.state) (λ memory. moment g.C.Core.meaning g.C.Core.view g.D.Disk.state g.W.Draws.block_of g.K.Sink.taken g.K.Sink.faults memory c.args.counts.now c.args.output.now) c.args.memory (Memory.Locked c.in-Locked.parts) c.in-Locked.is
    c.tell_lock-given.result now c.args.item c.args.item refl
    (says_over (TellsImages g.D.Disk.state) was (subst (λ memory. Rests (moment g.C.Core.meaning g.C.Core.view g.D.Disk.state g.W.Draws.block_of g.K.Sink.taken g.K.Sink.faults memory c.args.counts.now c.args.output.now)) c.in-Locked.is c.requires.rests)
    (λ M B. item_meaning M B c.args.item) c.tell_lock-given.result _ _ locked_line
    (λ images s x. lock_tells was.machine was.blocks k.lap c.args.item (sym c.needs_memory-in_default.ensures ∙ c.if-needs_memory-2.true) (stand s (over images was)) x) given.given given.later given.cause)

pub returns-else-needs_memory-2-clause-does : goal.returns-else-needs_memory-2-clause-does
returns-else-needs_memory-2-clause-does g c =
    let k = c.args.counts.now in
    let was = moment_closed Locked g.C.Core.meaning g.C.Core.view g.D.Disk.state g.W.Draws.block_of g.K.Sink.taken g.K.Sink.faults c.in-Locked.parts k c.args.output.now in
    over_by (TellsImages g.D.Disk.state) (λ memory. moment g.C.Core.meaning g.C.Core.view g.D.Disk.state g.W.Draws.block_of g.K.Sink.taken g.K.Sink.faults memory c.args.counts.now c.args.output.now) c.args.memory (Memory.Locked c.in-Locked.parts) c.in-Locked.is
    (Err Halt.ScriptFault) was c.args.item c.args.item refl
    (stops_over (TellsImages g.D.Disk.state) was (subst (λ memory. Rests (moment g.C.Core.meaning g.C.Core.view g.D.Disk.state g.W.Draws.block_of g.K.Sink.taken g.K.Sink.faults memory c.args.counts.now c.args.output.now)) c.in-Locked.is c.requires.rests) c.args.item
    (λ images s x. no_place_shut was.machine was.blocks k.lap c.args.item (sym c.needs_memory-in_default.ensures ∙ c.if-needs_memory-2.false) c.in_default.not-Clear c.requires.no_comment (stand s (over images was)) x refl))
