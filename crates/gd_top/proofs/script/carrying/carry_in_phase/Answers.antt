use Rattle.std.proofs.Common.{◌∙◌, sym, refl, Err}
use Rattle.gd_script.specs.declared.item.Item.{Item}
use Rattle.gd_top.specs.Code.Memory.{moment, moment_on, moment_closed}
use Rattle.gd_top.specs.Report.Lines.{locked_line}
use Rattle.gd_top.specs.Run.Items.{item_meaning}
use Rattle.gd_top.specs.Run.State.{Off, Locked}
use Rattle.gd_top.specs.declared.halt.Halt.{Halt}
use Rattle.gd_top.specs.declared.memory.Memory.{Memory}
use Rattle.gd_top.proofs.ItemLemmas.Lines.{item_by, moved_by, says_here, stops_does}
use Rattle.gd_top.proofs.ItemLemmas.PowerLines.{lock_tells, no_place_locked, no_place_on, no_place_off}
use Rattle.gd_top.proofs.RunLemmas.Standings.{stand}
use Rattle.gd_top.proofs.script.carrying.carry_in_phase.Goals as goal

pub returns-in-Off-item-clause-does : goal.returns-in-Off-item-clause-does
returns-in-Off-item-clause-does g c =
    let k = c.args.counts.now in
    let now = moment g.C.Core.meaning g.C.Core.view g.L.Disk.state g.W.Draws.block_of g.K.Sink.taken g.K.Sink.faults c.turn_off.result.0 k c.turn_off.new.output in
    item_by (λ memory. moment g.C.Core.meaning g.C.Core.view g.L.Disk.state g.W.Draws.block_of g.K.Sink.taken g.K.Sink.faults memory c.args.counts.now c.args.output.now) c.args.memory (Memory.On c.in-On.cabinet) c.in-On.is c.turn_off.result.1 now c.args.item Item.Off c.in-Off-item.is
    (c.turn_off.ensures k (moved_by (λ memory. moment g.C.Core.meaning g.C.Core.view g.L.Disk.state g.W.Draws.block_of g.K.Sink.taken g.K.Sink.faults memory c.args.counts.now c.args.output.now) c.args.memory (Memory.On c.in-On.cabinet) c.in-On.is c.requires.sits))

pub returns-in-On-item-clause-does : goal.returns-in-On-item-clause-does
returns-in-On-item-clause-does g c =
    let now = moment g.C.Core.meaning g.C.Core.view g.L.Disk.state g.W.Draws.block_of g.K.Sink.taken g.K.Sink.faults c.turn_on.result.0 c.turn_on.new.counts c.turn_on.new.output in
    item_by (λ memory. moment g.C.Core.meaning g.C.Core.view g.L.Disk.state g.W.Draws.block_of g.K.Sink.taken g.K.Sink.faults memory c.args.counts.now c.args.output.now) c.args.memory (Memory.Off c.in-Off.parts) c.in-Off.is c.turn_on.result.1 now c.args.item Item.On c.in-On-item.is c.turn_on.ensures.does

pub returns-in-Clear-clause-does : goal.returns-in-Clear-clause-does
returns-in-Clear-clause-does g c =
    let now = moment g.C.Core.meaning g.C.Core.view g.L.Disk.state g.W.Draws.block_of g.K.Sink.taken g.K.Sink.faults c.clear.result.0 c.clear.new.counts c.clear.new.output in
    item_by (λ memory. moment g.C.Core.meaning g.C.Core.view g.L.Disk.state g.W.Draws.block_of g.K.Sink.taken g.K.Sink.faults memory c.args.counts.now c.args.output.now) c.args.memory (Memory.Locked c.in-Locked.parts) c.in-Locked.is c.clear.result.1 now c.args.item Item.Clear c.in-Clear.is c.clear.ensures.does

pub returns-in-Alter-clause-does : goal.returns-in-Alter-clause-does
returns-in-Alter-clause-does g c =
    let k = c.args.counts.now in
    let now = moment g.C.Core.meaning g.C.Core.view g.L.Disk.state g.W.Draws.block_of g.K.Sink.taken g.K.Sink.faults c.alter.result.0 k c.alter.new.output in
    item_by (λ memory. moment g.C.Core.meaning g.C.Core.view g.L.Disk.state g.W.Draws.block_of g.K.Sink.taken g.K.Sink.faults memory c.args.counts.now c.args.output.now) c.args.memory (Memory.Off c.in-Off.parts) c.in-Off.is c.alter.result.1 now c.args.item (Item.Alter c.in-Alter.side c.in-Alter.at c.in-Alter.mask) c.in-Alter.is
    (c.alter.ensures k (moved_by (λ memory. moment g.C.Core.meaning g.C.Core.view g.L.Disk.state g.W.Draws.block_of g.K.Sink.taken g.K.Sink.faults memory c.args.counts.now c.args.output.now) c.args.memory (Memory.Off c.in-Off.parts) c.in-Off.is c.requires.sits))

pub returns-then-needs_memory-clause-does : goal.returns-then-needs_memory-clause-does
returns-then-needs_memory-clause-does g c =
    let now = moment g.C.Core.meaning g.C.Core.view g.L.Disk.state g.W.Draws.block_of g.K.Sink.taken g.K.Sink.faults c.carry_asked.result.0 c.carry_asked.new.counts c.carry_asked.new.output in
    item_by (λ memory. moment g.C.Core.meaning g.C.Core.view g.L.Disk.state g.W.Draws.block_of g.K.Sink.taken g.K.Sink.faults memory c.args.counts.now c.args.output.now) c.args.memory (Memory.On c.in-On.cabinet) c.in-On.is c.carry_asked.result.1 now c.args.item c.args.item refl c.carry_asked.ensures.does

pub returns-else-needs_memory-clause-does : goal.returns-else-needs_memory-clause-does
returns-else-needs_memory-clause-does g c =
    let cabinet = c.in-On.cabinet in
    let k = c.args.counts.now in
    let was = moment_on g.C.Core.meaning g.C.Core.view g.L.Disk.state g.W.Draws.block_of g.K.Sink.taken g.K.Sink.faults cabinet k c.args.output.now in
    item_by (λ memory. moment g.C.Core.meaning g.C.Core.view g.L.Disk.state g.W.Draws.block_of g.K.Sink.taken g.K.Sink.faults memory c.args.counts.now c.args.output.now) c.args.memory (Memory.On cabinet) c.in-On.is (Err Halt.ScriptFault) was c.args.item c.args.item refl
    (stops_does was (moved_by (λ memory. moment g.C.Core.meaning g.C.Core.view g.L.Disk.state g.W.Draws.block_of g.K.Sink.taken g.K.Sink.faults memory c.args.counts.now c.args.output.now) c.args.memory (Memory.On cabinet) c.in-On.is c.requires.sits) c.args.item (λ s x. no_place_on was.machine was.blocks k.lap c.args.item (sym c.needs_memory.ensures ∙ c.if-needs_memory.false) c.in_default.not-Off c.requires.no_comment c.requires.no_cut was.view (stand s was) x))

pub returns-in_default-item-clause-does : goal.returns-in_default-item-clause-does
returns-in_default-item-clause-does g c =
    let k = c.args.counts.now in
    let was = moment_closed Off g.C.Core.meaning g.C.Core.view g.L.Disk.state g.W.Draws.block_of g.K.Sink.taken g.K.Sink.faults c.in-Off.parts k c.args.output.now in
    let d = c.in_default-item in
    item_by (λ memory. moment g.C.Core.meaning g.C.Core.view g.L.Disk.state g.W.Draws.block_of g.K.Sink.taken g.K.Sink.faults memory c.args.counts.now c.args.output.now) c.args.memory (Memory.Off c.in-Off.parts) c.in-Off.is (Err Halt.ScriptFault) was c.args.item c.args.item refl
    (stops_does was (moved_by (λ memory. moment g.C.Core.meaning g.C.Core.view g.L.Disk.state g.W.Draws.block_of g.K.Sink.taken g.K.Sink.faults memory c.args.counts.now c.args.output.now) c.args.memory (Memory.Off c.in-Off.parts) c.in-Off.is c.requires.sits) c.args.item (λ s x. no_place_off was.machine was.blocks k.lap c.args.item d.not-On d.not-Alter c.requires.no_comment c.requires.no_cut (stand s was) x))

pub returns-then-needs_memory-2-clause-does : goal.returns-then-needs_memory-2-clause-does
returns-then-needs_memory-2-clause-does g c =
    let k = c.args.counts.now in
    let was = moment_closed Locked g.C.Core.meaning g.C.Core.view g.L.Disk.state g.W.Draws.block_of g.K.Sink.taken g.K.Sink.faults c.in-Locked.parts k c.args.output.now in
    let now = moment_closed Locked g.C.Core.meaning g.C.Core.view g.L.Disk.state g.W.Draws.block_of g.K.Sink.taken g.K.Sink.faults c.in-Locked.parts k c.tell_lock-given.new.output in
    let given = c.tell_lock-given.ensures in
    item_by (λ memory. moment g.C.Core.meaning g.C.Core.view g.L.Disk.state g.W.Draws.block_of g.K.Sink.taken g.K.Sink.faults memory c.args.counts.now c.args.output.now) c.args.memory (Memory.Locked c.in-Locked.parts) c.in-Locked.is c.tell_lock-given.result now c.args.item c.args.item refl
    (says_here was (λ M B. item_meaning M B c.args.item) c.tell_lock-given.result _ _ locked_line (moved_by (λ memory. moment g.C.Core.meaning g.C.Core.view g.L.Disk.state g.W.Draws.block_of g.K.Sink.taken g.K.Sink.faults memory c.args.counts.now c.args.output.now) c.args.memory (Memory.Locked c.in-Locked.parts) c.in-Locked.is c.requires.sits)
    (λ s x. lock_tells was.machine was.blocks k.lap c.args.item (sym c.needs_memory-in_default-item-2.ensures ∙ c.if-needs_memory-2.true) (stand s was) x) given.given given.later given.cause)

pub returns-else-needs_memory-2-clause-does : goal.returns-else-needs_memory-2-clause-does
returns-else-needs_memory-2-clause-does g c =
    let k = c.args.counts.now in
    let was = moment_closed Locked g.C.Core.meaning g.C.Core.view g.L.Disk.state g.W.Draws.block_of g.K.Sink.taken g.K.Sink.faults c.in-Locked.parts k c.args.output.now in
    item_by (λ memory. moment g.C.Core.meaning g.C.Core.view g.L.Disk.state g.W.Draws.block_of g.K.Sink.taken g.K.Sink.faults memory c.args.counts.now c.args.output.now) c.args.memory (Memory.Locked c.in-Locked.parts) c.in-Locked.is (Err Halt.ScriptFault) was c.args.item c.args.item refl
    (stops_does was (moved_by (λ memory. moment g.C.Core.meaning g.C.Core.view g.L.Disk.state g.W.Draws.block_of g.K.Sink.taken g.K.Sink.faults memory c.args.counts.now c.args.output.now) c.args.memory (Memory.Locked c.in-Locked.parts) c.in-Locked.is c.requires.sits) c.args.item (λ s x. no_place_locked was.machine was.blocks k.lap c.args.item (sym c.needs_memory-in_default-item-2.ensures ∙ c.if-needs_memory-2.false) c.in_default-item-2.not-Clear c.requires.no_comment c.requires.no_cut (stand s was) x))
