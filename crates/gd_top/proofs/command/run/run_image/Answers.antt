use Rattle.std.proofs.Common.{sym, subst, []}
use Rattle.gd_image.specs.declared.platform.Platform.{Platform}
use Rattle.gd_image.specs.Words.{platform_setup, platform_view}
use Rattle.gd_machine.specs.Meaning.{the_machine}
use Rattle.gd_machine.specs.Words.{IsWhole}
use Rattle.gd_machine.proofs.Telling.{machine_tells}
use Rattle.gd_top.specs.Claims.ImageRuns.{ImageRunDid, TellsImages, laboratory}
use Rattle.gd_top.specs.Claims.MemoryLeft.{IsAtRest}
use Rattle.gd_top.specs.Claims.Runs.{HasCauses, outer}
use Rattle.gd_top.specs.Code.Memory.{memory_disk, memory_phase, moment, moment_closed}
use Rattle.gd_top.specs.Run.State.{Off}
use Rattle.gd_top.proofs.OverLemmas.Told.{image_told, carried_so}
use Rattle.gd_top.proofs.RulesKept.{spells_empty}
use Rattle.gd_top.proofs.TrialLemmas.Ends.{causes}
use Rattle.gd_top.proofs.command.run.run_image.Goals as goal

pub returns-clause-done : goal.returns-clause-done
returns-clause-done g c =
    let ran = c.carry_script-memory in
    let memory = ran.result.0 in
    let status = c.end_report-status.result in
    let last = c.end_report-status.ensures in
    let meaning = λ (core : Platform). the_machine (platform_setup core) in
    let was = moment_closed Off meaning platform_view g.D.Disk.state g.W.Draws.block_of g.K.Sink.taken g.K.Sink.faults c.args.parts c.new-counts.result c.args.output.now in
    let now = moment meaning platform_view g.D.Disk.state g.W.Draws.block_of g.K.Sink.taken g.K.Sink.faults memory ran.new.counts ran.new.output in
    let M = the_machine (platform_setup c.args.parts.core) in
    let B = g.W.Draws.block_of c.args.parts.draws in
    let before = outer g.S.Source.left g.S.Source.faults g.K.Sink.taken g.K.Sink.faults g.D.Disk.state c.args.input.now c.args.output.now c.args.parts.disk in
    let after = outer g.S.Source.left g.S.Source.faults g.K.Sink.taken g.K.Sink.faults g.D.Disk.state ran.new.input c.end_report-status.new.output in
    let rest = c.close-parts.ensures in
    subst (λ disk. ImageRunDid (TellsImages g.D.Disk.state) M B status before (after disk)) (sym rest.disk) (
      carried_so ran.result.1 (memory_phase memory) status _ _ _ last.last,
      (λ told image seen.
          image_told was now (g.S.Source.left c.args.input.now) (g.S.Source.left ran.new.input) (g.K.Sink.taken c.end_report-status.new.output) (g.S.Source.faults c.args.input.now) (g.S.Source.faults ran.new.input)
          (g.K.Sink.faults c.end_report-status.new.output) image ran.result.1 status (ran.ensures.done told image seen) ran.ensures.ends c.new-counts.ensures.falls
          (λ runs settled synced. subst (λ disk. IsAtRest (memory_phase memory) (g.D.Disk.state disk)) rest.disk (rest.at_rest runs settled synced))
          ran.ensures.read_fault last.last),
    )

pub returns-clause-causes : goal.returns-clause-causes
returns-clause-causes g c =
    let ran = c.carry_script-memory in
    let memory = ran.result.0 in
    let status = c.end_report-status.result in
    let before = outer g.S.Source.left g.S.Source.faults g.K.Sink.taken g.K.Sink.faults g.D.Disk.state c.args.input.now c.args.output.now c.args.parts.disk in
    let after = outer g.S.Source.left g.S.Source.faults g.K.Sink.taken g.K.Sink.faults g.D.Disk.state ran.new.input c.end_report-status.new.output in
    let ends = ran.ensures.ends in
    let last = c.end_report-status.ensures in
    subst (λ disk. HasCauses status (laboratory [] before) (laboratory [] (after disk))) (sym c.close-parts.ensures.disk)
    (causes status (laboratory [] before) (laboratory [] (after (memory_disk memory))) ran.result.1 (memory_phase memory) (g.K.Sink.faults ran.new.output) last.cause ends.later last.later ran.ensures.read_fault
    ends.write_fault ends.disk_fault)

pub carry_script-memory-requires-clause-tells : goal.carry_script-memory-requires-clause-tells
carry_script-memory-requires-clause-tells g c = machine_tells (platform_setup c.args.parts.core)

pub carry_script-memory-requires-clause-payload : goal.carry_script-memory-requires-clause-payload
carry_script-memory-requires-clause-payload g c =
    let core = c.args.parts.core in
    spells_empty (platform_setup core) (subst (IsWhole (platform_setup core)) c.requires.empty core.whole)

pub carry_script-memory-requires-clause-fresh : goal.carry_script-memory-requires-clause-fresh
carry_script-memory-requires-clause-fresh g c =
    let k = c.new-counts.ensures in
    record { lines = k.lines; power_ons = k.power_ons; lap = k.lap; offers = k.offers; calls = k.calls; falls = k.falls }
