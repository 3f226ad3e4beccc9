use Rattle.std.proofs.Common.{◌≡◌, sym, subst, refl, ℕ, List, arith, Option, None}
use Rattle.gd_image.specs.declared.platform.Platform.{Platform}
use Rattle.gd_image.specs.Words.{platform_setup, platform_view}
use Rattle.gd_base.specs.Outside.Causes.{Rose}
use Rattle.gd_machine.specs.Meaning.{the_machine}
use Rattle.gd_machine.proofs.Telling.{machine_tells}
use Rattle.gd_top.specs.Claims.MemoryLeft.{IsAtRest}
use Rattle.gd_top.specs.Claims.Soak.{SoakDid}
use Rattle.gd_top.specs.Code.Memory.{Serves, memory_disk, memory_phase, moment, moment_closed}
use Rattle.gd_top.specs.Code.SoakDone.{IsSoakEnd, soak_status, soak_text}
use Rattle.gd_top.specs.Run.State.{Off}
use Rattle.gd_top.specs.declared.status.Status.{Status}
use Rattle.gd_top.proofs.SoakLemmas.Calm.{soak_end}
use Rattle.gd_top.proofs.SoakLemmas.Told.{disk_rose, no_read, soak_did, write_rose}
use Rattle.gd_top.proofs.command.soak.run_soak.Goals as goal

pub carry_soak-memory-requires-clause-tells : goal.carry_soak-memory-requires-clause-tells
carry_soak-memory-requires-clause-tells g c = machine_tells (platform_setup c.args.parts.core)

pub carry_soak-memory-requires-clause-fresh : goal.carry_soak-memory-requires-clause-fresh
carry_soak-memory-requires-clause-fresh g c =
    let k = c.new-counts.ensures in
    record { lines = k.lines; power_ons = k.power_ons; lap = k.lap; offers = k.offers; calls = k.calls; falls = k.falls }

pub end_soak-status-requires : goal.end_soak-status-requires
end_soak-status-requires g c =
    let ran = c.carry_soak-memory in
    let memory = ran.result.0 in
    let meaning = λ (core : Platform). the_machine (platform_setup core) in
    let unkept = λ (sink : Unit {0}). let taken : Option (List ℕ) = None in taken in
    let faultless = λ (sink : Unit {0}). let count : ℕ = 0 in count in
    let was = moment_closed Off meaning platform_view g.L.Disk.state g.W.Draws.block_of unkept faultless c.args.parts c.new-counts.result tt in
    let now = moment meaning platform_view g.L.Disk.state g.W.Draws.block_of unkept faultless memory ran.new.counts tt in
    let end : IsSoakEnd ran.result.1 (memory_phase memory) = soak_end was now c.args.count c.args.seed c.requires.few ran.ensures.lines ran.result.1 ran.ensures.done (λ is. absurd (omega (arith, ran.ensures.leaves.write_fault is))) in
    record { end = end }

pub returns-clause-done : goal.returns-clause-done
returns-clause-done g c =
    let ran = c.carry_soak-memory in
    let memory = ran.result.0 in
    let meaning = λ (core : Platform). the_machine (platform_setup core) in
    let unkept = λ (sink : Unit {0}). let taken : Option (List ℕ) = None in taken in
    let faultless = λ (sink : Unit {0}). let count : ℕ = 0 in count in
    let was = moment_closed Off meaning platform_view g.L.Disk.state g.W.Draws.block_of unkept faultless c.args.parts c.new-counts.result tt in
    let now = moment meaning platform_view g.L.Disk.state g.W.Draws.block_of unkept faultless memory ran.new.counts tt in
    let end : IsSoakEnd ran.result.1 (memory_phase memory) = soak_end was now c.args.count c.args.seed c.requires.few ran.ensures.lines ran.result.1 ran.ensures.done (λ is. absurd (omega (arith, ran.ensures.leaves.write_fault is))) in
    let rest = c.close-parts.ensures in
    let rested : Serves ran.result.1 → IsAtRest now.phase now.disk = λ serves.
    let sits = ran.ensures.leaves.sits serves in
    subst (λ disk. IsAtRest (memory_phase memory) (g.L.Disk.state disk)) rest.disk (rest.at_rest sits.runs sits.settled sits.synced) in
    let M = the_machine (platform_setup c.args.parts.core) in
    let B = g.W.Draws.block_of c.args.parts.draws in
    let falls = ran.new.counts.falls.items in
    let text = soak_text now.machine c.args.count now.counts.power_ons now.view ran.result.1 in
    let did = soak_did was now c.args.count c.args.seed refl refl ran.result.1 ran.ensures.done ran.ensures.leaves rested end in (
      soak_status ran.result.1,
      text,
      subst (λ disk. SoakDid M B c.args.count c.args.seed falls (g.L.Disk.state c.args.parts.disk) (g.L.Disk.state disk) (soak_status ran.result.1) text) (sym rest.disk) did,
      c.end_soak-status.ensures.last,
    )

pub returns-clause-read : goal.returns-clause-read
returns-clause-read g c = no_read c.end_soak-status.result (g.K.Sink.faults c.args.output.now) (g.K.Sink.faults c.end_soak-status.new.output) c.carry_soak-memory.result.1 c.end_soak-status.ensures.cause

pub returns-clause-write : goal.returns-clause-write
returns-clause-write g c = write_rose c.end_soak-status.result (g.K.Sink.faults c.args.output.now) (g.K.Sink.faults c.end_soak-status.new.output) c.carry_soak-memory.result.1 c.end_soak-status.ensures.cause

pub returns-clause-disk : goal.returns-clause-disk
returns-clause-disk g c =
    let ran = c.carry_soak-memory in
    let memory = ran.result.0 in
    let meaning = λ (core : Platform). the_machine (platform_setup core) in
    let unkept = λ (sink : Unit {0}). let taken : Option (List ℕ) = None in taken in
    let faultless = λ (sink : Unit {0}). let count : ℕ = 0 in count in
    let was = moment_closed Off meaning platform_view g.L.Disk.state g.W.Draws.block_of unkept faultless c.args.parts c.new-counts.result tt in
    let now = moment meaning platform_view g.L.Disk.state g.W.Draws.block_of unkept faultless memory ran.new.counts tt in
    let end : IsSoakEnd ran.result.1 (memory_phase memory) = soak_end was now c.args.count c.args.seed c.requires.few ran.ensures.lines ran.result.1 ran.ensures.done (λ is. absurd (omega (arith, ran.ensures.leaves.write_fault is))) in
    subst (λ disk. c.end_soak-status.result ≡ Status.DiskFault → Rose (g.L.Disk.state c.args.parts.disk).faults (g.L.Disk.state disk).faults) (sym c.close-parts.ensures.disk)
    (disk_rose c.end_soak-status.result (g.K.Sink.faults c.args.output.now) (g.K.Sink.faults c.end_soak-status.new.output) ran.result.1 (memory_phase memory)
    (g.L.Disk.state c.args.parts.disk).faults (g.L.Disk.state (memory_disk memory)).faults c.end_soak-status.ensures.cause end ran.ensures.leaves.disk_fault)
