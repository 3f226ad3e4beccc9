use Rattle.std.proofs.Common.{◌∙◌, ap, sym, subst, refl, ℕ, ◌+◌, ◌<◌, arith, Result, Ok}
use Rattle.gd_script.specs.declared.item.Item.{Item}
use Rattle.gd_top.specs.Code.Memory.{moment, CarriesOut, Leaves}
use Rattle.gd_top.specs.Run.Items.{item_meaning}
use Rattle.gd_top.specs.declared.halt.Halt.{Halt}
use Rattle.gd_top.specs.declared.script.reader.TheConstants.{MOST_LINES}
use Rattle.gd_top.proofs.LineLemmas.Steps.{leaves_then, recounted, went_on}
use Rattle.gd_top.proofs.SoakLemmas.Items.{item_goes, item_halts, items_all, no_comment, none_yet}
use Rattle.gd_top.proofs.command.soak.carry_items.Goals as goal

pub loop-k-init : goal.loop-k-init
loop-k-init g c =
    let was = moment g.C.Core.meaning g.C.Core.view g.L.Disk.state g.W.Draws.block_of g.K.Sink.taken g.K.Sink.faults c.args.memory c.args.counts.now c.args.output.now in
    record {
      so_far = none_yet c.args.seed was;
      leaves = record {
        sits = λ serves. c.requires.sits;
        no_fault = λ serves. refl;
        disk_fault = λ is. absurd (cc is);
        later = omega arith;
        write_fault = λ is. absurd (cc is);
        machine = refl;
        blocks = λ lap index. refl;
      };
      lines = c.requires.none;
      few = omega (arith, c.requires.few);
    }

pub carry_item-next-requires-clause-no_comment : goal.carry_item-next-requires-clause-no_comment
carry_item-next-requires-clause-no_comment g c = no_comment c.args.seed c.loop-k.k c.generate-item.result c.generate-item.ensures.item

pub returns-then-is_err-clause-done : goal.returns-then-is_err-clause-done
returns-then-is_err-clause-done g c =
    let was = moment g.C.Core.meaning g.C.Core.view g.L.Disk.state g.W.Draws.block_of g.K.Sink.taken g.K.Sink.faults c.args.memory c.args.counts.now c.args.output.now in
    let mid = moment g.C.Core.meaning g.C.Core.view g.L.Disk.state g.W.Draws.block_of g.K.Sink.taken g.K.Sink.faults c.loop-k.memory c.loop-k.counts c.loop-k.output in
    let next = moment g.C.Core.meaning g.C.Core.view g.L.Disk.state g.W.Draws.block_of g.K.Sink.taken g.K.Sink.faults c.carry_item-next.result.0 c.carry_item-next.new.counts c.carry_item-next.new.output in
    let few : mid.counts.lines < MOST_LINES = omega (arith, c.loop-k.invariant.lines, c.loop-k-test.true, c.requires.items) in
    item_halts c.args.seed c.loop-k.k was mid next c.carry_item-next.result.1 c.loop-k.invariant.so_far c.loop-k.invariant.leaves few c.args.count c.loop-k-test.true (sym c.is_err.ensures.value ∙ c.if-is_err.true)
    (subst (λ (item : Item). CarriesOut (λ M B. item_meaning M B item) c.carry_item-next.result.1 mid next) c.generate-item.ensures.item c.carry_item-next.ensures.does.carried)

pub returns-then-is_err-clause-leaves : goal.returns-then-is_err-clause-leaves
returns-then-is_err-clause-leaves g c =
    let was = moment g.C.Core.meaning g.C.Core.view g.L.Disk.state g.W.Draws.block_of g.K.Sink.taken g.K.Sink.faults c.args.memory c.args.counts.now c.args.output.now in
    let mid = moment g.C.Core.meaning g.C.Core.view g.L.Disk.state g.W.Draws.block_of g.K.Sink.taken g.K.Sink.faults c.loop-k.memory c.loop-k.counts c.loop-k.output in
    let next = moment g.C.Core.meaning g.C.Core.view g.L.Disk.state g.W.Draws.block_of g.K.Sink.taken g.K.Sink.faults c.carry_item-next.result.0 c.carry_item-next.new.counts c.carry_item-next.new.output in
    leaves_then was mid next c.carry_item-next.result.1 c.loop-k.invariant.leaves c.carry_item-next.ensures.does.leaves

pub loop-k-preserved : goal.loop-k-preserved
loop-k-preserved g c =
    let was = moment g.C.Core.meaning g.C.Core.view g.L.Disk.state g.W.Draws.block_of g.K.Sink.taken g.K.Sink.faults c.args.memory c.args.counts.now c.args.output.now in
    let mid = moment g.C.Core.meaning g.C.Core.view g.L.Disk.state g.W.Draws.block_of g.K.Sink.taken g.K.Sink.faults c.loop-k.memory c.loop-k.counts c.loop-k.output in
    let next = moment g.C.Core.meaning g.C.Core.view g.L.Disk.state g.W.Draws.block_of g.K.Sink.taken g.K.Sink.faults c.carry_item-next.result.0 c.carry_item-next.new.counts c.carry_item-next.new.output in
    let few : mid.counts.lines < MOST_LINES = omega (arith, c.loop-k.invariant.lines, c.loop-k-test.true, c.requires.items) in
    let went = went_on c.carry_item-next.result.1 (sym c.is_err.ensures.value ∙ c.if-is_err.false) in
    record {
      so_far = item_goes c.args.seed c.loop-k.k was mid next c.carry_item-next.result.1 c.loop-k.invariant.so_far c.loop-k.invariant.leaves few went
          (subst (λ (item : Item). CarriesOut (λ M B. item_meaning M B item) c.carry_item-next.result.1 mid next) c.generate-item.ensures.item c.carry_item-next.ensures.does.carried);
      leaves = recounted was next (Ok tt) _ (leaves_then was mid next (Ok tt) c.loop-k.invariant.leaves (subst (λ (r : Result (Unit {0}) Halt). Leaves r mid next) went c.carry_item-next.ensures.does.leaves));
      lines = ap (λ (n : ℕ). n + 1) (c.carry_item-next.ensures.lines ∙ c.loop-k.invariant.lines);
      few = omega (arith, c.loop-k.invariant.few, c.carry_item-next.ensures.offers);
    }

pub returns-clause-done : goal.returns-clause-done
returns-clause-done g c =
    let was = moment g.C.Core.meaning g.C.Core.view g.L.Disk.state g.W.Draws.block_of g.K.Sink.taken g.K.Sink.faults c.args.memory c.args.counts.now c.args.output.now in
    let mid = moment g.C.Core.meaning g.C.Core.view g.L.Disk.state g.W.Draws.block_of g.K.Sink.taken g.K.Sink.faults c.loop-k.memory c.loop-k.counts c.loop-k.output in
    items_all c.args.seed c.loop-k.k c.args.count was mid (omega (arith, c.loop-k-test.false, c.loop-k.auto.k-end)) c.loop-k.invariant.so_far
