use Rattle.std.proofs.Common.{◌∙◌, ap, sym, subst, refl, ℕ, ◌+◌, ◌++◌, arith, ◌≡◌, true, List, codes, Option, Result, Ok, Err, is_err}
use Rattle.gd_top.specs.Code.Memory.{Serves, moment, moment_closed}
use Rattle.gd_top.specs.Code.OverImage.{over}
use Rattle.gd_top.specs.Code.Parts.{GivesText}
use Rattle.gd_top.specs.Run.State.{Off, Locked}
use Rattle.gd_top.specs.declared.halt.Halt.{Halt}
use Rattle.gd_top.specs.declared.memory.counts.Counts.{Counts}
use Rattle.gd_top.proofs.ItemLemmas.Clearing.{cleared_front}
use Rattle.gd_top.proofs.OverLemmas.Clearings.{clear_broke, clear_opened, clear_then, opened_one}
use Rattle.gd_top.proofs.RunLemmas.Said.{err_of, gives_no_disk_fault, gives_no_read_fault, written_of}
use Rattle.gd_top.proofs.image.clearing.clear.Goals as goal

-- where the sink failed, nothing is served
no_serving : (r : Result (Unit {0}) Halt) (taken given : Option (List ℕ)) (text : List ℕ) → is_err r ≡ true → GivesText r taken given text → Serves r → ⊥
no_serving (Ok done) taken given text err gives serves = cc err
no_serving (Err Halt.ScriptFault) taken given text err gives serves = gives
no_serving (Err Halt.ReadFault) taken given text err gives serves = gives
no_serving (Err Halt.DiskFault) taken given text err gives serves = gives
no_serving (Err Halt.WriteFault) taken given text err gives serves = serves
no_serving (Err Halt.SetupDiffers) taken given text err gives serves = gives

-- the disk failed in the making
pub returns-in-Err-clause-does : goal.returns-in-Err-clause-does
returns-in-Err-clause-does g c =
    let k = c.args.counts.now in
    let was = moment_closed Locked g.C.Core.meaning g.C.Core.view g.D.Disk.state g.W.Draws.block_of g.K.Sink.taken g.K.Sink.faults c.args.parts k c.args.output.now in
    let now = moment_closed Off g.C.Core.meaning g.C.Core.view g.D.Disk.state g.W.Draws.block_of g.K.Sink.taken g.K.Sink.faults c.in-Err.left (record k { offers = k.offers + 1 }) c.args.output.now in
    let h = c.in-Err.ensures in
    let machine = ap g.C.Core.meaning h.kept.0 ∙ c.clear.ensures.same in
    let blocks = λ (lap index : ℕ). ap (λ d. g.W.Draws.block_of d lap index) h.kept.1 in
    record {
      does = λ told image images stands. (
        images,
        opened_one was image images refl stands,
        (λ serves. absurd serves),
        clear_broke was image images refl stands (g.C.Core.meaning c.clear.new.self) (g.C.Core.view c.clear.new.self) c.clear.ensures.same c.clear.ensures.view now (h.unmade stands.sits.power) h.cause machine blocks refl refl refl,
      );
      ends = record {
        rests = λ serves. absurd serves;
        no_stop = λ serves. absurd serves;
        disk_fault = λ is. omega (arith, h.cause);
        later = omega arith;
        write_fault = λ is. absurd (cc is);
        machine = machine;
        blocks = blocks;
        falls = refl;
      };
      reads_nothing = λ is. absurd (cc is);
    }

-- the sink failed where it is told that a memory was made
pub returns-then-is_err-clause-does : goal.returns-then-is_err-clause-does
returns-then-is_err-clause-does g c =
    let k = c.args.counts.now in
    let k2 : Counts = record k { offers = k.offers + 1; lap = k.lap + 1 } in
    let was = moment_closed Locked g.C.Core.meaning g.C.Core.view g.D.Disk.state g.W.Draws.block_of g.K.Sink.taken g.K.Sink.faults c.args.parts k c.args.output.now in
    let made = moment_closed Off g.C.Core.meaning g.C.Core.view g.D.Disk.state g.W.Draws.block_of g.K.Sink.taken g.K.Sink.faults c.in-Ok.made k2 c.args.output.now in
    let now = moment_closed Off g.C.Core.meaning g.C.Core.view g.D.Disk.state g.W.Draws.block_of g.K.Sink.taken g.K.Sink.faults c.in-Ok.made k2 c.give_text-given.new.output in
    let h = c.in-Ok.ensures in
    let r = c.give_text-given.result in
    let given = c.give_text-given.ensures in
    let failed = sym c.is_err.ensures.value ∙ c.if-is_err.true in
    let machine = ap g.C.Core.meaning h.core ∙ c.clear.ensures.same in
    let blocks = λ (lap index : ℕ). ap (λ d. g.W.Draws.block_of d lap index) h.draws in
    let text : GivesText r was.taken now.taken (codes "cleared\n") = subst (GivesText r _ _) (c.push_str.ensures.bytes ∙ ap (λ (bytes : List ℕ). bytes ++ codes "cleared\n") c.clear-in-Ok.ensures) given.given in
    record {
      does = λ told image images stands. (
        images,
        opened_one was image images refl stands,
        (λ serves. absurd (no_serving r _ _ _ failed text serves)),
        clear_then was image images refl stands (g.C.Core.meaning c.clear.new.self) (g.C.Core.view c.clear.new.self) c.clear.ensures.same c.clear.ensures.view made refl h.made h.no_stop machine blocks refl refl refl r images now
            (cleared_front (over images made) r _ _ failed refl text given.later given.cause),
      );
      ends = record {
        rests = λ serves. absurd (no_serving r _ _ _ failed text serves);
        no_stop = λ serves. h.no_stop;
        disk_fault = λ is. absurd (gives_no_disk_fault r _ _ _ text is);
        later = given.later;
        write_fault = λ is. err_of r _ failed given.cause;
        machine = machine;
        blocks = blocks;
        falls = refl;
      };
      reads_nothing = λ is. gives_no_read_fault r _ _ _ text is;
    }

-- and else it was opened
pub returns-else-is_err-clause-does : goal.returns-else-is_err-clause-does
returns-else-is_err-clause-does g c =
    let k = c.args.counts.now in
    let k2 : Counts = record k { offers = k.offers + 1; lap = k.lap + 1 } in
    let was = moment_closed Locked g.C.Core.meaning g.C.Core.view g.D.Disk.state g.W.Draws.block_of g.K.Sink.taken g.K.Sink.faults c.args.parts k c.args.output.now in
    let made = moment_closed Off g.C.Core.meaning g.C.Core.view g.D.Disk.state g.W.Draws.block_of g.K.Sink.taken g.K.Sink.faults c.in-Ok.made k2 c.args.output.now in
    let now = moment g.C.Core.meaning g.C.Core.view g.D.Disk.state g.W.Draws.block_of g.K.Sink.taken g.K.Sink.faults c.open.result.0 c.open.new.counts c.open.new.output in
    let h = c.in-Ok.ensures in
    let r = c.give_text-given.result in
    let given = c.give_text-given.ensures in
    let opens = c.open.ensures.does in
    let ends = opens.ends in
    let machine = ap g.C.Core.meaning h.core ∙ c.clear.ensures.same in
    let blocks = λ (lap index : ℕ). ap (λ d. g.W.Draws.block_of d lap index) h.draws in
    let text = subst (GivesText r _ _) (c.push_str.ensures.bytes ∙ ap (λ (bytes : List ℕ). bytes ++ codes "cleared\n") c.clear-in-Ok.ensures) given.given in
    let whole = written_of r _ _ _ (sym c.is_err.ensures.value ∙ c.if-is_err.false) text in
    record {
      does = λ told image images stands.
          let new = told c.in-Ok.made.disk in
          clear_opened was image images refl stands (g.C.Core.meaning c.clear.new.self) (g.C.Core.view c.clear.new.self) c.clear.ensures.same c.clear.ensures.view made refl h.made h.no_stop machine blocks refl refl refl
          _ _ whole given.later new.0 new.1 h.shown _ told c.open.result.1 now opens c.open.ensures.power_ons;
      ends = record {
        rests = ends.rests;
        no_stop = λ serves. ends.no_stop serves ∙ h.no_stop;
        disk_fault = λ is. omega (arith, h.no_stop, ends.disk_fault is);
        later = omega (arith, given.later, ends.later);
        write_fault = λ is. omega (arith, given.later, ends.write_fault is);
        machine = ends.machine ∙ machine;
        blocks = λ lap index. ends.blocks lap index ∙ blocks lap index;
        falls = ends.falls;
      };
      reads_nothing = opens.no_read;
    }
