use Rattle.std.proofs.Common.{◌∙◌, sym, subst, Result}
use Rattle.gd_top.specs.Code.Memory.{moment, moment_closed}
use Rattle.gd_top.specs.Code.OverImage.{Ends}
use Rattle.gd_top.specs.Run.State.{Off}
use Rattle.gd_top.specs.declared.halt.Halt.{Halt}
use Rattle.gd_top.specs.Claims.ImageRuns.{TellsImages}
use Rattle.gd_top.proofs.LineLemmas.Steps.{went_on}
use Rattle.gd_top.proofs.OverLemmas.Lines.{ends_then}
use Rattle.gd_top.proofs.OverLemmas.Runs.{lines_over, opening_over}
use Rattle.gd_top.proofs.command.run.carry_script.Goals as goal

pub returns-then-is_err-clause-done : goal.returns-then-is_err-clause-done
returns-then-is_err-clause-done g c =
    let was = moment_closed Off g.C.Core.meaning g.C.Core.view g.D.Disk.state g.W.Draws.block_of g.K.Sink.taken g.K.Sink.faults c.args.parts c.args.counts.now c.args.output.now in
    let mid = moment g.C.Core.meaning g.C.Core.view g.D.Disk.state g.W.Draws.block_of g.K.Sink.taken g.K.Sink.faults c.open-memory.result.0 c.open-memory.new.counts c.open-memory.new.output in
    λ told image seen. opening_over (TellsImages g.D.Disk.state) was c.requires.tells c.requires.fresh c.requires.given c.requires.payload image seen c.open-memory.result.1 mid c.open-memory.ensures.does told _ _ (sym c.is_err.ensures.value ∙ c.if-is_err.true)

pub returns-then-is_err-clause-ends : goal.returns-then-is_err-clause-ends
returns-then-is_err-clause-ends g c = c.open-memory.ensures.does.ends

pub returns-then-is_err-clause-read_fault : goal.returns-then-is_err-clause-read_fault
returns-then-is_err-clause-read_fault g c = λ is. absurd (c.open-memory.ensures.does.no_read is)

pub carry_lines-requires-clause-rests : goal.carry_lines-requires-clause-rests
carry_lines-requires-clause-rests g c =
    let was = moment_closed Off g.C.Core.meaning g.C.Core.view g.D.Disk.state g.W.Draws.block_of g.K.Sink.taken g.K.Sink.faults c.args.parts c.args.counts.now c.args.output.now in
    let mid = moment g.C.Core.meaning g.C.Core.view g.D.Disk.state g.W.Draws.block_of g.K.Sink.taken g.K.Sink.faults c.open-memory.result.0 c.open-memory.new.counts c.open-memory.new.output in
    let went = went_on c.open-memory.result.1 (sym c.is_err.ensures.value ∙ c.if-is_err.false) in
    (subst (λ (r : Result (Unit {0}) Halt). Ends r was mid) went c.open-memory.ensures.does.ends).rests tt

pub returns-clause-done : goal.returns-clause-done
returns-clause-done g c =
    let was = moment_closed Off g.C.Core.meaning g.C.Core.view g.D.Disk.state g.W.Draws.block_of g.K.Sink.taken g.K.Sink.faults c.args.parts c.args.counts.now c.args.output.now in
    let mid = moment g.C.Core.meaning g.C.Core.view g.D.Disk.state g.W.Draws.block_of g.K.Sink.taken g.K.Sink.faults c.open-memory.result.0 c.open-memory.new.counts c.open-memory.new.output in
    let now = moment g.C.Core.meaning g.C.Core.view g.D.Disk.state g.W.Draws.block_of g.K.Sink.taken g.K.Sink.faults c.carry_lines.result.0 c.carry_lines.new.counts c.carry_lines.new.output in
    let went = went_on c.open-memory.result.1 (sym c.is_err.ensures.value ∙ c.if-is_err.false) in
    λ told image seen. lines_over (TellsImages g.D.Disk.state) was c.requires.tells c.requires.fresh c.requires.given c.requires.payload image seen c.open-memory.result.1 mid c.open-memory.ensures.does went c.open-memory.ensures.power_ons told
    c.carry_lines.result.1 now _ _ c.carry_lines.ensures.done

pub returns-clause-ends : goal.returns-clause-ends
returns-clause-ends g c =
    let was = moment_closed Off g.C.Core.meaning g.C.Core.view g.D.Disk.state g.W.Draws.block_of g.K.Sink.taken g.K.Sink.faults c.args.parts c.args.counts.now c.args.output.now in
    let mid = moment g.C.Core.meaning g.C.Core.view g.D.Disk.state g.W.Draws.block_of g.K.Sink.taken g.K.Sink.faults c.open-memory.result.0 c.open-memory.new.counts c.open-memory.new.output in
    let now = moment g.C.Core.meaning g.C.Core.view g.D.Disk.state g.W.Draws.block_of g.K.Sink.taken g.K.Sink.faults c.carry_lines.result.0 c.carry_lines.new.counts c.carry_lines.new.output in
    let went = went_on c.open-memory.result.1 (sym c.is_err.ensures.value ∙ c.if-is_err.false) in
    ends_then was mid now c.carry_lines.result.1 (subst (λ (r : Result (Unit {0}) Halt). Ends r was mid) went c.open-memory.ensures.does.ends) c.carry_lines.ensures.ends
