use Rattle.std.proofs.Common.{◌∙◌, ap, sym, subst, refl, ℕ, List, [], ◌+◌, ◌++◌, arith, codes}
use Rattle.gd_base.specs.Laws.TellsViews.{HasPayload, TellsViews}
use Rattle.gd_cabinet.specs.Cabinet.{cabinet_core, cabinet_draws}
use Rattle.gd_cabinet.specs.Shown.{IsInBoth}
use Rattle.gd_script.specs.declared.item.Item.{Item}
use Rattle.gd_top.specs.Claims.MemoryLeft.{IsMasked}
use Rattle.gd_top.specs.Code.Memory.{AreCounted, moment_on, moment_closed, outside}
use Rattle.gd_top.specs.Code.Parts.{GivesText}
use Rattle.gd_top.specs.Run.Items.{item_meaning}
use Rattle.gd_top.specs.Run.Offers.{AreArmed}
use Rattle.gd_top.specs.Run.State.{Off}
use Rattle.gd_top.proofs.ItemLemmas.Images.{both_alike, settled, settled_after, still, unmasked}
use Rattle.gd_top.proofs.ItemLemmas.PowerLines.{off_after, off_tells}
use Rattle.gd_top.proofs.RunLemmas.Cuts.{armed_length}
use Rattle.gd_top.proofs.RunLemmas.Said.{said, moves_on, gives_no_disk_fault, gives_no_read_fault, on_err_at}
use Rattle.gd_top.proofs.RunLemmas.Standings.{stand, from_stand, holds_alike}
use Rattle.gd_top.proofs.item.power.turn_off.Goals as goal

pub returns : goal.returns
returns g c = λ k sits.
    let cabinet = c.args.cabinet in
    let M = g.C.Core.meaning (cabinet_core cabinet) in
    let B = g.W.Draws.block_of (cabinet_draws cabinet) in
    let v = g.C.Core.view (cabinet_core cabinet) in
    let r = c.give_text-given.result in
    let given = c.give_text-given.ensures in
    let closed = c.close-parts.result in
    let on = g.L.Disk.state closed.disk in
    let off = g.L.Disk.state c.power_off.new.self in
    let parts = record closed { disk = c.power_off.new.self } in
    let N = g.C.Core.meaning closed.core in
    let w = g.C.Core.view closed.core in
    let same = c.close-parts.ensures.disk in
    let machine = ap g.C.Core.meaning c.close-parts.ensures.core in
    let same_cuts = c.power_off.ensures.armed ∙ ap (λ d. (g.L.Disk.state d).armed) same in
    let was = moment_on g.C.Core.meaning g.C.Core.view g.L.Disk.state g.W.Draws.block_of g.K.Sink.taken g.K.Sink.faults cabinet k c.args.output.now in
    let now = moment_closed Off g.C.Core.meaning g.C.Core.view g.L.Disk.state g.W.Draws.block_of g.K.Sink.taken g.K.Sink.faults parts k c.give_text-given.new.output in
    let holds : (image : List ℕ) → off.may_find image → IsMasked M w [] image = λ image may. unmasked M w image (still M (IsInBoth M w) on off (both_alike M N w w on machine refl (c.close-parts.ensures.both sits.runs)) c.power_off.ensures.loss image may) in
    record {
      carried = from_stand (λ M B. item_meaning M B Item.Off) r was now
          (λ s fits.
          let a = stand s was in
          let b = off_after M B k.lap w a in
          let armed = subst (AreArmed s.armed) (sym same_cuts) fits.armed in (
            b,
            (λ serves. record {
              phase = refl;
              trial = refl;
              known = tt;
              lines = refl;
              power_ons = refl;
              lap = refl;
              offers = refl;
              armed = armed;
              spelled = subst (λ core. HasPayload (g.C.Core.meaning core) (g.C.Core.view core)) (sym c.close-parts.ensures.core) fits.spelled;
              holds = holds_alike M N Off b.view b.masks off machine holds;
              bad = λ is. absurd (cc is);
              explained = fits.explained;
            }),
            said M r (item_meaning M B Item.Off) a b (outside was) (outside now) off (codes "off\n") (c.power_off.ensures.found ∙ ap (λ d. (g.L.Disk.state d).found) same) refl
                (moves_on a b (outside was) (outside now) (omega arith) (omega arith) (ap (λ (n : ℕ). n + s.syncs) (c.power_off.ensures.counts.syncs ∙ ap (λ d. (g.L.Disk.state d).syncs) same)))
                (λ x whole. off_tells M B k.lap v w a x refl (ap g.C.Core.view c.close-parts.ensures.core)) fits.explained (armed_length s.armed off.armed armed) holds
                (subst (GivesText r _ _) (c.push_str.ensures.bytes ∙ ap (λ (bytes : List ℕ). bytes ++ codes "off\n") c.clear.ensures) given.given),
          ));
      leaves = record {
        sits = λ serves. record {
          tells = subst TellsViews (sym machine) sits.tells;
          given = sits.given ∙ ap (λ O. O.digest) (sym machine);
          size = c.power_off.ensures.counts.size ∙ ap (λ d. (g.L.Disk.state d).size) same ∙ sits.size;
          power = c.power_off.ensures.power;
          runs = refl;
          same_lap = λ is. absurd (cc is);
          laps = omega (arith, sits.laps);
          falls = omega (arith, sits.falls);
          counted = subst (AreCounted k) (sym same_cuts) sits.counted;
          settled = λ is. settled_after on off (settled on (c.close-parts.ensures.synced sits.runs)) c.power_off.ensures.loss;
          synced = λ is. absurd (cc is);
        };
        no_fault = λ serves. c.power_off.ensures.faults ∙ ap (λ d. (g.L.Disk.state d).faults) same;
        disk_fault = λ is. absurd (gives_no_disk_fault r _ _ _ given.given is);
        later = given.later;
        write_fault = λ is. on_err_at r _ _ given.cause is;
        machine = machine;
        blocks = λ lap index. ap (λ d. g.W.Draws.block_of d lap index) c.close-parts.ensures.draws;
      };
      reads_nothing = λ is. gives_no_read_fault r _ _ _ given.given is;
    }
