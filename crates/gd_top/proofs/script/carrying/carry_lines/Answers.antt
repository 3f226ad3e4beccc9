use Rattle.std.proofs.Common.{◌∙◌, ap, sym, subst, refl, ℕ, ◌+◌, ◌<◌, arith, Bool, Result, Ok, Err}
use Rattle.gd_top.specs.Code.Memory.{moment, outside, CarriesOut, Leaves}
use Rattle.gd_top.specs.Script.Kinds.{line_alone}
use Rattle.gd_top.specs.Script.Lines.{line_of}
use Rattle.gd_top.specs.declared.halt.Halt.{Halt}
use Rattle.gd_top.specs.declared.script.reader.TheConstants.{MOST_LINES}
use Rattle.gd_top.proofs.ItemLemmas.Lines.{comment_is, comment_out, no_item}
use Rattle.gd_top.proofs.LineLemmas.Exits.{lines_none, lines_end, lines_halt, lines_past}
use Rattle.gd_top.proofs.LineLemmas.Steps.{line_halts, line_goes, leaves_as, leaves_at_end, leaves_at_line, leaves_then, recounted, went_on, taken_whole, taken_none}
use Rattle.gd_top.proofs.ScriptLemmas.Reading.{source_at_end}
use Rattle.gd_top.proofs.script.carrying.carry_lines.Goals as goal

pub loop-init : goal.loop-init
loop-init g c =
    let was = moment g.C.Core.meaning g.C.Core.view g.L.Disk.state g.W.Draws.block_of g.K.Sink.taken g.K.Sink.faults c.args.memory c.args.counts.now c.args.output.now in
    record {
      so_far = λ s fits. (s, fits, lines_none was.machine was.blocks s (outside was) (g.S.Source.left c.args.input.now) _ c.new-ahead.ensures);
      leaves = record {
        sits = λ serves. c.requires.sits;
        no_fault = λ serves. refl;
        disk_fault = λ is. absurd (cc is);
        later = omega arith;
        write_fault = λ is. absurd (cc is);
        machine = refl;
        blocks = λ lap index. refl;
      };
      lines = c.requires.none;
      few = omega (arith, c.requires.few);
      reads = omega arith;
    }

pub returns-then-is_err-clause-done : goal.returns-then-is_err-clause-done
returns-then-is_err-clause-done g c =
    let was = moment g.C.Core.meaning g.C.Core.view g.L.Disk.state g.W.Draws.block_of g.K.Sink.taken g.K.Sink.faults c.args.memory c.args.counts.now c.args.output.now in
    let mid = moment g.C.Core.meaning g.C.Core.view g.L.Disk.state g.W.Draws.block_of g.K.Sink.taken g.K.Sink.faults c.loop.memory c.loop.counts c.loop.output in
    let next = moment g.C.Core.meaning g.C.Core.view g.L.Disk.state g.W.Draws.block_of g.K.Sink.taken g.K.Sink.faults c.carry_item-next.result.0 c.carry_item-next.new.counts c.carry_item-next.new.output in
    let line = c.next_line.new.line.items in
    let few : mid.counts.lines < MOST_LINES = omega (arith, c.loop.invariant.lines, c.loop-test.true) in
    line_halts was mid next c.carry_item-next.result.1 _ _ _ _ line c.as_slice.result.now c.loop.invariant.so_far c.loop.invariant.leaves few c.as_slice.ensures.value c.next_line.ensures.no_end
    (taken_whole _ _ line c.in-Ok-true.field-0 c.in-Ok-true.field-0-test c.in-Ok-true.ensures.taken) (sym c.is_err.ensures.value ∙ c.if-is_err.true)
    (subst (λ l. CarriesOut (λ M B. line_alone M B l) c.carry_item-next.result.1 mid next) c.in-Some.ensures.item c.carry_item-next.ensures.does.carried)

pub returns-then-is_err-clause-read_fault : goal.returns-then-is_err-clause-read_fault
returns-then-is_err-clause-read_fault g c = λ is. absurd (c.carry_item-next.ensures.does.reads_nothing is)

pub returns-then-is_err-clause-leaves : goal.returns-then-is_err-clause-leaves
returns-then-is_err-clause-leaves g c =
    let was = moment g.C.Core.meaning g.C.Core.view g.L.Disk.state g.W.Draws.block_of g.K.Sink.taken g.K.Sink.faults c.args.memory c.args.counts.now c.args.output.now in
    let mid = moment g.C.Core.meaning g.C.Core.view g.L.Disk.state g.W.Draws.block_of g.K.Sink.taken g.K.Sink.faults c.loop.memory c.loop.counts c.loop.output in
    let next = moment g.C.Core.meaning g.C.Core.view g.L.Disk.state g.W.Draws.block_of g.K.Sink.taken g.K.Sink.faults c.carry_item-next.result.0 c.carry_item-next.new.counts c.carry_item-next.new.output in
    leaves_then was mid next c.carry_item-next.result.1 c.loop.invariant.leaves c.carry_item-next.ensures.does.leaves

pub returns-in_default-clause-done : goal.returns-in_default-clause-done
returns-in_default-clause-done g c =
    let was = moment g.C.Core.meaning g.C.Core.view g.L.Disk.state g.W.Draws.block_of g.K.Sink.taken g.K.Sink.faults c.args.memory c.args.counts.now c.args.output.now in
    let mid = moment g.C.Core.meaning g.C.Core.view g.L.Disk.state g.W.Draws.block_of g.K.Sink.taken g.K.Sink.faults c.loop.memory c.loop.counts c.loop.output in
    let line = c.next_line.new.line.items in
    let few : mid.counts.lines < MOST_LINES = omega (arith, c.loop.invariant.lines, c.loop-test.true) in
    line_halts was mid mid (Err Halt.ScriptFault) _ _ _ (g.S.Source.left c.next_line.new.source) line c.as_slice.result.now c.loop.invariant.so_far c.loop.invariant.leaves few c.as_slice.ensures.value c.next_line.ensures.no_end
    (taken_whole _ _ line c.in-Ok-true.field-0 c.in-Ok-true.field-0-test c.in-Ok-true.ensures.taken) refl (no_item mid (line_of c.as_slice.result.now) c.in_default.ensures.item)

pub loop-preserved-then-is_comment : goal.loop-preserved-then-is_comment
loop-preserved-then-is_comment g c =
    let was = moment g.C.Core.meaning g.C.Core.view g.L.Disk.state g.W.Draws.block_of g.K.Sink.taken g.K.Sink.faults c.args.memory c.args.counts.now c.args.output.now in
    let mid = moment g.C.Core.meaning g.C.Core.view g.L.Disk.state g.W.Draws.block_of g.K.Sink.taken g.K.Sink.faults c.loop.memory c.loop.counts c.loop.output in
    let line = c.next_line.new.line.items in
    let few : mid.counts.lines < MOST_LINES = omega (arith, c.loop.invariant.lines, c.loop-test.true) in
    record {
      so_far = line_goes was mid mid (Ok tt) _ _ _ line c.as_slice.result.now c.loop.invariant.so_far c.loop.invariant.leaves few c.as_slice.ensures.value c.next_line.ensures.no_end
          (taken_whole _ _ line c.in-Ok-true.field-0 c.in-Ok-true.field-0-test c.in-Ok-true.ensures.taken) refl
          (comment_out mid (line_of c.as_slice.result.now) c.in-Some.item c.in-Some.ensures.item (comment_is c.in-Some.item (sym c.is_comment.ensures ∙ c.if-is_comment.true)));
      leaves = recounted was mid (Ok tt) _ c.loop.invariant.leaves;
      lines = ap (λ (n : ℕ). n + 1) c.loop.invariant.lines;
      few = omega (arith, c.loop.invariant.few);
      reads = omega (arith, c.loop.invariant.reads, c.next_line.ensures.later);
    }

pub returns-in-Ok-false-clause-done : goal.returns-in-Ok-false-clause-done
returns-in-Ok-false-clause-done g c =
    let was = moment g.C.Core.meaning g.C.Core.view g.L.Disk.state g.W.Draws.block_of g.K.Sink.taken g.K.Sink.faults c.args.memory c.args.counts.now c.args.output.now in
    let mid = moment g.C.Core.meaning g.C.Core.view g.L.Disk.state g.W.Draws.block_of g.K.Sink.taken g.K.Sink.faults c.loop.memory c.loop.counts c.loop.output in
    let line = c.next_line.new.line.items in
    λ s fits.
    let k = c.loop.invariant.so_far s fits in
    let taken = taken_none _ _ line c.in-Ok-false.field-0 c.in-Ok-false.field-0-test c.in-Ok-false.ensures.taken in
    (k.0, (λ serves. k.1), (lines_end was.machine was.blocks s k.0 (outside was) (outside mid) _ _ _ k.2 line taken.0 taken.1 taken.2, source_at_end _ _ taken.2))

pub returns-in-Err-clause-done : goal.returns-in-Err-clause-done
returns-in-Err-clause-done g c =
    let was = moment g.C.Core.meaning g.C.Core.view g.L.Disk.state g.W.Draws.block_of g.K.Sink.taken g.K.Sink.faults c.args.memory c.args.counts.now c.args.output.now in
    let mid = moment g.C.Core.meaning g.C.Core.view g.L.Disk.state g.W.Draws.block_of g.K.Sink.taken g.K.Sink.faults c.loop.memory c.loop.counts c.loop.output in
    let line = c.next_line.new.line.items in
    λ s fits.
    let k = c.loop.invariant.so_far s fits in
    let few : k.0.lines < MOST_LINES = omega (arith, k.1.lines, c.loop.invariant.lines, c.loop-test.true) in
    (k.0, (λ serves. k.1), lines_halt was.machine was.blocks c.in-Err.halt s k.0 (outside was) (outside mid) mid.disk _ _ _ _ line k.2 c.next_line.ensures.no_end c.next_line.ensures.short few (λ e. c.in-Err.ensures.empty (ap (λ (h : Halt). let r : Result Bool Halt = Err h in r) e)) c.in-Err.ensures.taken)

pub loop-preserved : goal.loop-preserved
loop-preserved g c =
    let was = moment g.C.Core.meaning g.C.Core.view g.L.Disk.state g.W.Draws.block_of g.K.Sink.taken g.K.Sink.faults c.args.memory c.args.counts.now c.args.output.now in
    let mid = moment g.C.Core.meaning g.C.Core.view g.L.Disk.state g.W.Draws.block_of g.K.Sink.taken g.K.Sink.faults c.loop.memory c.loop.counts c.loop.output in
    let next = moment g.C.Core.meaning g.C.Core.view g.L.Disk.state g.W.Draws.block_of g.K.Sink.taken g.K.Sink.faults c.carry_item-next.result.0 c.carry_item-next.new.counts c.carry_item-next.new.output in
    let line = c.next_line.new.line.items in
    let few : mid.counts.lines < MOST_LINES = omega (arith, c.loop.invariant.lines, c.loop-test.true) in
    let went = went_on c.carry_item-next.result.1 (sym c.is_err.ensures.value ∙ c.if-is_err.false) in
    record {
      so_far = line_goes was mid next c.carry_item-next.result.1 _ _ _ line c.as_slice.result.now c.loop.invariant.so_far c.loop.invariant.leaves few c.as_slice.ensures.value c.next_line.ensures.no_end
          (taken_whole _ _ line c.in-Ok-true.field-0 c.in-Ok-true.field-0-test c.in-Ok-true.ensures.taken) went
          (subst (λ l. CarriesOut (λ M B. line_alone M B l) c.carry_item-next.result.1 mid next) c.in-Some.ensures.item c.carry_item-next.ensures.does.carried);
      leaves = recounted was next (Ok tt) _ (leaves_then was mid next (Ok tt) c.loop.invariant.leaves (subst (λ (r : Result (Unit {0}) Halt). Leaves r mid next) went c.carry_item-next.ensures.does.leaves));
      lines = ap (λ (n : ℕ). n + 1) (c.carry_item-next.ensures.lines ∙ c.loop.invariant.lines);
      few = omega (arith, c.loop.invariant.few, c.carry_item-next.ensures.offers);
      reads = omega (arith, c.loop.invariant.reads, c.next_line.ensures.later);
    }

pub returns-clause-done : goal.returns-clause-done
returns-clause-done g c =
    let was = moment g.C.Core.meaning g.C.Core.view g.L.Disk.state g.W.Draws.block_of g.K.Sink.taken g.K.Sink.faults c.args.memory c.args.counts.now c.args.output.now in
    let mid = moment g.C.Core.meaning g.C.Core.view g.L.Disk.state g.W.Draws.block_of g.K.Sink.taken g.K.Sink.faults c.loop.memory c.loop.counts c.loop.output in
    λ s fits.
    let k = c.loop.invariant.so_far s fits in
    (k.0, (λ serves. k.1), lines_past was.machine was.blocks c.expect_end.result s k.0 (outside was) (outside mid) mid.disk _ _ _ _ k.2 (omega (arith, k.1.lines, c.loop.invariant.lines, c.loop-test.false, c.loop.auto.counter-end)) c.expect_end.ensures.empty c.expect_end.ensures.taken)

pub carry_item-next-requires-clause-sits : goal.carry_item-next-requires-clause-sits
carry_item-next-requires-clause-sits g c = c.loop.invariant.leaves.sits tt

pub returns-in_default-clause-leaves : goal.returns-in_default-clause-leaves
returns-in_default-clause-leaves g c =
    let was = moment g.C.Core.meaning g.C.Core.view g.L.Disk.state g.W.Draws.block_of g.K.Sink.taken g.K.Sink.faults c.args.memory c.args.counts.now c.args.output.now in
    let mid = moment g.C.Core.meaning g.C.Core.view g.L.Disk.state g.W.Draws.block_of g.K.Sink.taken g.K.Sink.faults c.loop.memory c.loop.counts c.loop.output in
    leaves_as was mid (Err Halt.ScriptFault) (λ is. cc is) (λ is. cc is) c.loop.invariant.leaves

pub returns-in-Err-clause-leaves : goal.returns-in-Err-clause-leaves
returns-in-Err-clause-leaves g c =
    let was = moment g.C.Core.meaning g.C.Core.view g.L.Disk.state g.W.Draws.block_of g.K.Sink.taken g.K.Sink.faults c.args.memory c.args.counts.now c.args.output.now in
    let mid = moment g.C.Core.meaning g.C.Core.view g.L.Disk.state g.W.Draws.block_of g.K.Sink.taken g.K.Sink.faults c.loop.memory c.loop.counts c.loop.output in
    leaves_at_line was mid c.in-Err.halt _ _ c.next_line.new.line.items c.in-Err.ensures.taken c.loop.invariant.leaves

pub returns-clause-leaves : goal.returns-clause-leaves
returns-clause-leaves g c =
    let was = moment g.C.Core.meaning g.C.Core.view g.L.Disk.state g.W.Draws.block_of g.K.Sink.taken g.K.Sink.faults c.args.memory c.args.counts.now c.args.output.now in
    let mid = moment g.C.Core.meaning g.C.Core.view g.L.Disk.state g.W.Draws.block_of g.K.Sink.taken g.K.Sink.faults c.loop.memory c.loop.counts c.loop.output in
    leaves_at_end was mid c.expect_end.result _ _ c.expect_end.ensures.taken c.loop.invariant.leaves
