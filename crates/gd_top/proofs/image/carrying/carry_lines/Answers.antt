use Rattle.std.proofs.Common.{◌∙◌, ap, sym, subst, refl, ℕ, ◌+◌, ◌<◌, arith, ◌≡◌, Bool, List, Option, Result, Ok, Err}
use Rattle.gd_top.specs.Claims.ImageRuns.{TellsImages}
use Rattle.gd_top.specs.Code.Memory.{moment, outside}
use Rattle.gd_top.specs.Code.OverImage.{DoesOver, Ends, over}
use Rattle.gd_top.specs.Script.Kinds.{line_alone}
use Rattle.gd_top.specs.Script.LineTaken.{TakesEnd, TakesLine}
use Rattle.gd_top.specs.Script.Lines.{line_of}
use Rattle.gd_top.specs.declared.halt.Halt.{Halt}
use Rattle.gd_top.specs.declared.script.reader.TheConstants.{MOST_LINES}
use Rattle.gd_top.proofs.ItemLemmas.Lines.{comment_is}
use Rattle.gd_top.proofs.LineLemmas.Exits.{lines_none, lines_end, lines_halt, lines_past}
use Rattle.gd_top.proofs.LineLemmas.Steps.{taken_none, taken_whole, went_on}
use Rattle.gd_top.proofs.OverLemmas.Lines.{comment_over, ends_as, ends_here, ends_on, ends_then, no_item_over, over_ends, over_goes, over_halts}
use Rattle.gd_top.proofs.RunLemmas.Said.{err_is}
use Rattle.gd_top.proofs.ScriptLemmas.Reading.{source_at_end}
use Rattle.gd_top.proofs.image.carrying.carry_lines.Goals as goal

-- a halt of the reader is none of the disk or of the sink
no_disk_line : (h : Halt) (old new : Option (List ℕ)) (line : List ℕ) → TakesLine old new line (Err h) → (let r : Result (Unit {0}) Halt = Err h in r) ≡ Err Halt.DiskFault → ⊥
no_disk_line h old new line taken is = subst (λ (k : Halt). TakesLine old new line (Err k)) (err_is h Halt.DiskFault is) taken

no_write_line : (h : Halt) (old new : Option (List ℕ)) (line : List ℕ) → TakesLine old new line (Err h) → (let r : Result (Unit {0}) Halt = Err h in r) ≡ Err Halt.WriteFault → ⊥
no_write_line h old new line taken is = subst (λ (k : Halt). TakesLine old new line (Err k)) (err_is h Halt.WriteFault is) taken

no_disk_end : (r : Result (Unit {0}) Halt) (old new : Option (List ℕ)) → TakesEnd old new r → r ≡ Err Halt.DiskFault → ⊥
no_disk_end r old new taken is = subst (λ (q : Result (Unit {0}) Halt). TakesEnd old new q) is taken

no_write_end : (r : Result (Unit {0}) Halt) (old new : Option (List ℕ)) → TakesEnd old new r → r ≡ Err Halt.WriteFault → ⊥
no_write_end r old new taken is = subst (λ (q : Result (Unit {0}) Halt). TakesEnd old new q) is taken

pub loop-init : goal.loop-init
loop-init g c =
    let was = moment g.C.Core.meaning g.C.Core.view g.D.Disk.state g.W.Draws.block_of g.K.Sink.taken g.K.Sink.faults c.args.memory c.args.counts.now c.args.output.now in
    record {
      so_far = λ told image images stands. (
        images,
        stands,
        (λ s fits. (s, fits, lines_none was.machine was.blocks s (outside (over images was)) (g.S.Source.left c.args.input.now) _ c.new-ahead.ensures)),
        record {
          sits = λ serves. stands.sits;
          no_fault = λ serves. refl;
          disk_fault = λ is. absurd (cc is);
          later = omega arith;
          write_fault = λ is. absurd (cc is);
          machine = refl;
          blocks = λ lap index. refl;
        },
      );
      ends = ends_here was c.requires.rests;
      lines = c.requires.none;
      offers = omega (arith, c.requires.few_offers);
      power_ons = omega (arith, c.requires.few_power_ons);
      laps = omega (arith, c.requires.few_laps);
      reads = omega arith;
    }

pub carry_item-next-requires-clause-rests : goal.carry_item-next-requires-clause-rests
carry_item-next-requires-clause-rests g c = c.loop.invariant.ends.rests tt

pub returns-then-is_err-clause-done : goal.returns-then-is_err-clause-done
returns-then-is_err-clause-done g c =
    let was = moment g.C.Core.meaning g.C.Core.view g.D.Disk.state g.W.Draws.block_of g.K.Sink.taken g.K.Sink.faults c.args.memory c.args.counts.now c.args.output.now in
    let mid = moment g.C.Core.meaning g.C.Core.view g.D.Disk.state g.W.Draws.block_of g.K.Sink.taken g.K.Sink.faults c.loop.memory c.loop.counts c.loop.output in
    let next = moment g.C.Core.meaning g.C.Core.view g.D.Disk.state g.W.Draws.block_of g.K.Sink.taken g.K.Sink.faults c.carry_item-next.result.0 c.carry_item-next.new.counts c.carry_item-next.new.output in
    let line = c.next_line.new.line.items in
    let few : mid.counts.lines < MOST_LINES = omega (arith, c.loop.invariant.lines, c.loop-test.true) in
    over_halts (TellsImages g.D.Disk.state) was mid next c.carry_item-next.result.1 _ _ _ _ line c.as_slice.result.now c.loop.invariant.so_far few c.as_slice.ensures.value c.next_line.ensures.no_end
    (taken_whole _ _ line c.in-Ok-true.field-0 c.in-Ok-true.field-0-test c.in-Ok-true.ensures.taken) (sym c.is_err.ensures.value ∙ c.if-is_err.true)
    (subst (λ l. DoesOver (TellsImages g.D.Disk.state) (λ M B. line_alone M B l) c.carry_item-next.result.1 mid next) c.in-Some.ensures.item c.carry_item-next.ensures.does)

pub returns-then-is_err-clause-ends : goal.returns-then-is_err-clause-ends
returns-then-is_err-clause-ends g c =
    let was = moment g.C.Core.meaning g.C.Core.view g.D.Disk.state g.W.Draws.block_of g.K.Sink.taken g.K.Sink.faults c.args.memory c.args.counts.now c.args.output.now in
    let mid = moment g.C.Core.meaning g.C.Core.view g.D.Disk.state g.W.Draws.block_of g.K.Sink.taken g.K.Sink.faults c.loop.memory c.loop.counts c.loop.output in
    let next = moment g.C.Core.meaning g.C.Core.view g.D.Disk.state g.W.Draws.block_of g.K.Sink.taken g.K.Sink.faults c.carry_item-next.result.0 c.carry_item-next.new.counts c.carry_item-next.new.output in
    ends_then was mid next c.carry_item-next.result.1 c.loop.invariant.ends c.carry_item-next.ensures.does.ends

pub returns-then-is_err-clause-read_fault : goal.returns-then-is_err-clause-read_fault
returns-then-is_err-clause-read_fault g c = λ is. absurd (c.carry_item-next.ensures.does.reads_nothing is)

pub returns-in_default-clause-done : goal.returns-in_default-clause-done
returns-in_default-clause-done g c =
    let was = moment g.C.Core.meaning g.C.Core.view g.D.Disk.state g.W.Draws.block_of g.K.Sink.taken g.K.Sink.faults c.args.memory c.args.counts.now c.args.output.now in
    let mid = moment g.C.Core.meaning g.C.Core.view g.D.Disk.state g.W.Draws.block_of g.K.Sink.taken g.K.Sink.faults c.loop.memory c.loop.counts c.loop.output in
    let line = c.next_line.new.line.items in
    let few : mid.counts.lines < MOST_LINES = omega (arith, c.loop.invariant.lines, c.loop-test.true) in
    over_halts (TellsImages g.D.Disk.state) was mid mid (Err Halt.ScriptFault) _ _ _ (g.S.Source.left c.next_line.new.source) line c.as_slice.result.now c.loop.invariant.so_far few c.as_slice.ensures.value c.next_line.ensures.no_end
    (taken_whole _ _ line c.in-Ok-true.field-0 c.in-Ok-true.field-0-test c.in-Ok-true.ensures.taken) refl
    (no_item_over (TellsImages g.D.Disk.state) mid (c.loop.invariant.ends.rests tt) (line_of c.as_slice.result.now) c.in_default.ensures.item)

pub returns-in_default-clause-ends : goal.returns-in_default-clause-ends
returns-in_default-clause-ends g c =
    let was = moment g.C.Core.meaning g.C.Core.view g.D.Disk.state g.W.Draws.block_of g.K.Sink.taken g.K.Sink.faults c.args.memory c.args.counts.now c.args.output.now in
    let mid = moment g.C.Core.meaning g.C.Core.view g.D.Disk.state g.W.Draws.block_of g.K.Sink.taken g.K.Sink.faults c.loop.memory c.loop.counts c.loop.output in
    ends_as was mid (Err Halt.ScriptFault) (λ is. cc is) (λ is. cc is) c.loop.invariant.ends

pub loop-preserved-then-is_comment : goal.loop-preserved-then-is_comment
loop-preserved-then-is_comment g c =
    let was = moment g.C.Core.meaning g.C.Core.view g.D.Disk.state g.W.Draws.block_of g.K.Sink.taken g.K.Sink.faults c.args.memory c.args.counts.now c.args.output.now in
    let mid = moment g.C.Core.meaning g.C.Core.view g.D.Disk.state g.W.Draws.block_of g.K.Sink.taken g.K.Sink.faults c.loop.memory c.loop.counts c.loop.output in
    let line = c.next_line.new.line.items in
    let few : mid.counts.lines < MOST_LINES = omega (arith, c.loop.invariant.lines, c.loop-test.true) in
    record {
      so_far = over_goes (TellsImages g.D.Disk.state) was mid mid (Ok tt) _ _ _ line c.as_slice.result.now c.loop.invariant.so_far few c.as_slice.ensures.value c.next_line.ensures.no_end
          (taken_whole _ _ line c.in-Ok-true.field-0 c.in-Ok-true.field-0-test c.in-Ok-true.ensures.taken) refl
          (comment_over (TellsImages g.D.Disk.state) mid (c.loop.invariant.ends.rests tt) (line_of c.as_slice.result.now) c.in-Some.item c.in-Some.ensures.item (comment_is c.in-Some.item (sym c.is_comment.ensures ∙ c.if-is_comment.true)));
      ends = ends_on was mid c.loop.invariant.ends;
      lines = ap (λ (n : ℕ). n + 1) c.loop.invariant.lines;
      offers = omega (arith, c.loop.invariant.offers);
      power_ons = omega (arith, c.loop.invariant.power_ons);
      laps = omega (arith, c.loop.invariant.laps);
      reads = omega (arith, c.loop.invariant.reads, c.next_line.ensures.later);
    }

pub returns-in-Ok-false-clause-done : goal.returns-in-Ok-false-clause-done
returns-in-Ok-false-clause-done g c =
    let was = moment g.C.Core.meaning g.C.Core.view g.D.Disk.state g.W.Draws.block_of g.K.Sink.taken g.K.Sink.faults c.args.memory c.args.counts.now c.args.output.now in
    let mid = moment g.C.Core.meaning g.C.Core.view g.D.Disk.state g.W.Draws.block_of g.K.Sink.taken g.K.Sink.faults c.loop.memory c.loop.counts c.loop.output in
    let line = c.next_line.new.line.items in
    over_ends (TellsImages g.D.Disk.state) was mid (Ok tt) _ _ _ c.loop.invariant.so_far (λ is. cc is) (λ is. cc is)
    (λ images later so_far s fits.
    let k = so_far s fits in
    let taken = taken_none _ _ line c.in-Ok-false.field-0 c.in-Ok-false.field-0-test c.in-Ok-false.ensures.taken in
    (k.0, (λ serves. k.1), (lines_end was.machine was.blocks s k.0 (outside (over images was)) (outside (over later mid)) _ _ _ k.2 line taken.0 taken.1 taken.2, source_at_end _ _ taken.2)))

pub returns-in-Err-clause-done : goal.returns-in-Err-clause-done
returns-in-Err-clause-done g c =
    let was = moment g.C.Core.meaning g.C.Core.view g.D.Disk.state g.W.Draws.block_of g.K.Sink.taken g.K.Sink.faults c.args.memory c.args.counts.now c.args.output.now in
    let mid = moment g.C.Core.meaning g.C.Core.view g.D.Disk.state g.W.Draws.block_of g.K.Sink.taken g.K.Sink.faults c.loop.memory c.loop.counts c.loop.output in
    let line = c.next_line.new.line.items in
    over_ends (TellsImages g.D.Disk.state) was mid (Err c.in-Err.halt) _ _ _ c.loop.invariant.so_far (no_disk_line c.in-Err.halt _ _ line c.in-Err.ensures.taken) (no_write_line c.in-Err.halt _ _ line c.in-Err.ensures.taken)
    (λ images later so_far s fits.
    let k = so_far s fits in
    let few : k.0.lines < MOST_LINES = omega (arith, k.1.lines, c.loop.invariant.lines, c.loop-test.true) in
    (k.0, (λ serves. k.1), lines_halt was.machine was.blocks c.in-Err.halt s k.0 (outside (over images was)) (outside (over later mid)) (over later mid).disk _ _ _ _ line k.2 c.next_line.ensures.no_end c.next_line.ensures.short few (λ e. c.in-Err.ensures.empty (ap (λ (h : Halt). let r : Result Bool Halt = Err h in r) e)) c.in-Err.ensures.taken))

pub returns-in-Err-clause-ends : goal.returns-in-Err-clause-ends
returns-in-Err-clause-ends g c =
    let was = moment g.C.Core.meaning g.C.Core.view g.D.Disk.state g.W.Draws.block_of g.K.Sink.taken g.K.Sink.faults c.args.memory c.args.counts.now c.args.output.now in
    let mid = moment g.C.Core.meaning g.C.Core.view g.D.Disk.state g.W.Draws.block_of g.K.Sink.taken g.K.Sink.faults c.loop.memory c.loop.counts c.loop.output in
    let line = c.next_line.new.line.items in
    ends_as was mid (Err c.in-Err.halt) (no_disk_line c.in-Err.halt _ _ line c.in-Err.ensures.taken) (no_write_line c.in-Err.halt _ _ line c.in-Err.ensures.taken) c.loop.invariant.ends

pub loop-preserved : goal.loop-preserved
loop-preserved g c =
    let was = moment g.C.Core.meaning g.C.Core.view g.D.Disk.state g.W.Draws.block_of g.K.Sink.taken g.K.Sink.faults c.args.memory c.args.counts.now c.args.output.now in
    let mid = moment g.C.Core.meaning g.C.Core.view g.D.Disk.state g.W.Draws.block_of g.K.Sink.taken g.K.Sink.faults c.loop.memory c.loop.counts c.loop.output in
    let next = moment g.C.Core.meaning g.C.Core.view g.D.Disk.state g.W.Draws.block_of g.K.Sink.taken g.K.Sink.faults c.carry_item-next.result.0 c.carry_item-next.new.counts c.carry_item-next.new.output in
    let line = c.next_line.new.line.items in
    let few : mid.counts.lines < MOST_LINES = omega (arith, c.loop.invariant.lines, c.loop-test.true) in
    let went = went_on c.carry_item-next.result.1 (sym c.is_err.ensures.value ∙ c.if-is_err.false) in
    let does = c.carry_item-next.ensures.does in
    record {
      so_far = over_goes (TellsImages g.D.Disk.state) was mid next c.carry_item-next.result.1 _ _ _ line c.as_slice.result.now c.loop.invariant.so_far few c.as_slice.ensures.value c.next_line.ensures.no_end
          (taken_whole _ _ line c.in-Ok-true.field-0 c.in-Ok-true.field-0-test c.in-Ok-true.ensures.taken) went
          (subst (λ l. DoesOver (TellsImages g.D.Disk.state) (λ M B. line_alone M B l) c.carry_item-next.result.1 mid next) c.in-Some.ensures.item does);
      ends = ends_on was next (ends_then was mid next (Ok tt) c.loop.invariant.ends (subst (λ (r : Result (Unit {0}) Halt). Ends r mid next) went does.ends));
      lines = ap (λ (n : ℕ). n + 1) (c.carry_item-next.ensures.lines ∙ c.loop.invariant.lines);
      offers = omega (arith, c.loop.invariant.offers, c.carry_item-next.ensures.offers);
      power_ons = omega (arith, c.loop.invariant.power_ons, c.carry_item-next.ensures.power_ons);
      laps = omega (arith, c.loop.invariant.laps, c.carry_item-next.ensures.lap);
      reads = omega (arith, c.loop.invariant.reads, c.next_line.ensures.later);
    }

pub returns-clause-done : goal.returns-clause-done
returns-clause-done g c =
    let was = moment g.C.Core.meaning g.C.Core.view g.D.Disk.state g.W.Draws.block_of g.K.Sink.taken g.K.Sink.faults c.args.memory c.args.counts.now c.args.output.now in
    let mid = moment g.C.Core.meaning g.C.Core.view g.D.Disk.state g.W.Draws.block_of g.K.Sink.taken g.K.Sink.faults c.loop.memory c.loop.counts c.loop.output in
    over_ends (TellsImages g.D.Disk.state) was mid c.expect_end.result _ _ _ c.loop.invariant.so_far
    (no_disk_end c.expect_end.result _ _ c.expect_end.ensures.taken) (no_write_end c.expect_end.result _ _ c.expect_end.ensures.taken)
    (λ images later so_far s fits.
    let k = so_far s fits in
    (k.0, (λ serves. k.1), lines_past was.machine was.blocks c.expect_end.result s k.0 (outside (over images was)) (outside (over later mid)) (over later mid).disk _ _ _ _ k.2 (omega (arith, k.1.lines, c.loop.invariant.lines, c.loop-test.false, c.loop.auto.counter-end)) c.expect_end.ensures.empty c.expect_end.ensures.taken))

pub returns-clause-ends : goal.returns-clause-ends
returns-clause-ends g c =
    let was = moment g.C.Core.meaning g.C.Core.view g.D.Disk.state g.W.Draws.block_of g.K.Sink.taken g.K.Sink.faults c.args.memory c.args.counts.now c.args.output.now in
    let mid = moment g.C.Core.meaning g.C.Core.view g.D.Disk.state g.W.Draws.block_of g.K.Sink.taken g.K.Sink.faults c.loop.memory c.loop.counts c.loop.output in
    ends_as was mid c.expect_end.result
    (no_disk_end c.expect_end.result _ _ c.expect_end.ensures.taken) (no_write_end c.expect_end.result _ _ c.expect_end.ensures.taken) c.loop.invariant.ends
