use Rattle.std.proofs.Common.{sym, subst}
use Rattle.gd_image.specs.declared.platform.Platform.{Platform}
use Rattle.gd_image.specs.Words.{platform_setup, platform_view}
use Rattle.gd_machine.specs.Meaning.{the_machine}
use Rattle.gd_machine.proofs.Telling.{machine_tells}
use Rattle.gd_top.specs.Claims.MemoryLeft.{IsAtRest}
use Rattle.gd_top.specs.Claims.Runs.{outer, HasCauses, TrialDone}
use Rattle.gd_top.specs.Code.Memory.{memory_disk, memory_phase, moment, moment_closed}
use Rattle.gd_top.specs.Run.State.{Off}
use Rattle.gd_top.proofs.TrialLemmas.Ends.{causes}
use Rattle.gd_top.proofs.TrialLemmas.Told.{trial_done}
use Rattle.gd_top.proofs.command.trial.run_trial.Goals as goal

pub returns-clause-done : goal.returns-clause-done
returns-clause-done g c =
    let ran = c.carry_script-memory in
    let memory = ran.result.0 in
    let status = c.end_report-status.result in
    let meaning = λ (core : Platform). the_machine (platform_setup core) in
    let was = moment_closed Off meaning platform_view g.L.Disk.state g.W.Draws.block_of g.K.Sink.taken g.K.Sink.faults c.args.parts c.new-counts.result c.args.output.now in
    let now = moment meaning platform_view g.L.Disk.state g.W.Draws.block_of g.K.Sink.taken g.K.Sink.faults memory ran.new.counts ran.new.output in
    let M = the_machine (platform_setup c.args.parts.core) in
    let B = g.W.Draws.block_of c.args.parts.draws in
    let before = outer g.S.Source.left g.S.Source.faults g.K.Sink.taken g.K.Sink.faults g.L.Disk.state c.args.input.now c.args.output.now c.args.parts.disk in
    let rest = c.close-parts.ensures in
    let told =
    trial_done was now (g.S.Source.left c.args.input.now) (g.S.Source.left ran.new.input) (g.K.Sink.taken c.end_report-status.new.output) (g.S.Source.faults c.args.input.now) (g.S.Source.faults ran.new.input)
    (g.K.Sink.faults c.end_report-status.new.output) ran.result.1 status ran.ensures.done ran.ensures.leaves
    (λ serves.
    let sits = ran.ensures.leaves.sits serves in
    subst (λ disk. IsAtRest (memory_phase memory) (g.L.Disk.state disk)) rest.disk (rest.at_rest sits.runs sits.settled sits.synced))
    ran.ensures.read_fault c.end_report-status.ensures.last in
    let after = outer g.S.Source.left g.S.Source.faults g.K.Sink.taken g.K.Sink.faults g.L.Disk.state ran.new.input c.end_report-status.new.output in
    subst (λ disk. TrialDone M B status ran.new.counts.falls.items before (after disk)) (sym rest.disk) told

pub returns-clause-causes : goal.returns-clause-causes
returns-clause-causes g c =
    let ran = c.carry_script-memory in
    let memory = ran.result.0 in
    let status = c.end_report-status.result in
    let before = outer g.S.Source.left g.S.Source.faults g.K.Sink.taken g.K.Sink.faults g.L.Disk.state c.args.input.now c.args.output.now c.args.parts.disk in
    let after = outer g.S.Source.left g.S.Source.faults g.K.Sink.taken g.K.Sink.faults g.L.Disk.state ran.new.input c.end_report-status.new.output in
    let leaves = ran.ensures.leaves in
    let last = c.end_report-status.ensures in
    subst (λ disk. HasCauses status before (after disk)) (sym c.close-parts.ensures.disk)
    (causes status before (after (memory_disk memory)) ran.result.1 (memory_phase memory) (g.K.Sink.faults ran.new.output) last.cause leaves.later last.later ran.ensures.read_fault
    leaves.write_fault leaves.disk_fault)

pub carry_script-memory-requires-clause-tells : goal.carry_script-memory-requires-clause-tells
carry_script-memory-requires-clause-tells g c = machine_tells (platform_setup c.args.parts.core)

pub carry_script-memory-requires-clause-fresh : goal.carry_script-memory-requires-clause-fresh
carry_script-memory-requires-clause-fresh g c =
    let k = c.new-counts.ensures in
    record { lines = k.lines; power_ons = k.power_ons; lap = k.lap; offers = k.offers; calls = k.calls; falls = k.falls }
