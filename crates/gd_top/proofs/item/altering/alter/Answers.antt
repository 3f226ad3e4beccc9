use Rattle.std.proofs.Common.{◌∙◌, ap, sym, subst, refl, ℕ, List, ◌+◌, ◌++◌, arith}
use Rattle.gd_script.specs.declared.item.Item.{Item}
use Rattle.gd_store.specs.Masks.{Mask}
use Rattle.gd_top.specs.Code.Memory.{AreCounted, moment_closed, outside}
use Rattle.gd_top.specs.Code.Parts.{GivesText}
use Rattle.gd_top.specs.Report.Lines.{altered_line}
use Rattle.gd_top.specs.Run.Items.{item_meaning}
use Rattle.gd_top.specs.Run.Offers.{AreArmed}
use Rattle.gd_top.specs.Run.State.{Off}
use Rattle.gd_top.proofs.ItemLemmas.Images.{masked_more, settled_altered}
use Rattle.gd_top.proofs.ItemLemmas.PowerLines.{altered_after, alter_tells}
use Rattle.gd_top.proofs.RunLemmas.Cuts.{armed_length}
use Rattle.gd_top.proofs.RunLemmas.Said.{said, moves_on, gives_no_disk_fault, gives_no_read_fault, on_err_at}
use Rattle.gd_top.proofs.RunLemmas.Standings.{stand, from_stand}
use Rattle.gd_top.proofs.item.altering.alter.Goals as goal

pub returns : goal.returns
returns g c = λ k sits.
    let parts = c.args.parts in
    let M = g.C.Core.meaning parts.core in
    let B = g.W.Draws.block_of parts.draws in
    let old = g.L.Disk.state parts.disk in
    let new = g.L.Disk.state c.alter.new.self in
    let m : Mask = record { side = c.args.side; place = c.args.at; mask = c.args.mask } in
    let r = c.give_text-given.result in
    let given = c.give_text-given.ensures in
    let was = moment_closed Off g.C.Core.meaning g.C.Core.view g.L.Disk.state g.W.Draws.block_of g.K.Sink.taken g.K.Sink.faults parts k c.args.output.now in
    let now = moment_closed Off g.C.Core.meaning g.C.Core.view g.L.Disk.state g.W.Draws.block_of g.K.Sink.taken g.K.Sink.faults (record parts { disk = c.alter.new.self }) k c.give_text-given.new.output in
    record {
      carried = from_stand (λ M B. item_meaning M B (Item.Alter c.args.side c.args.at c.args.mask)) r was now
          (λ s fits.
          let a = stand s was in
          let b = altered_after M B k.lap m a in
          let armed = subst (AreArmed s.armed) (sym c.alter.ensures.armed) fits.armed in
          let holds = masked_more M s.view s.masks m c.place_of.result old new c.place_of.ensures fits.holds c.alter.ensures.loss in (
            b,
            (λ serves. record {
              phase = refl;
              trial = refl;
              known = (omega (arith, c.requires.within), fits.known);
              lines = refl;
              power_ons = refl;
              lap = refl;
              offers = refl;
              armed = armed;
              spelled = fits.spelled;
              holds = holds;
              bad = λ is. absurd (cc is);
              explained = fits.explained;
            }),
            said M r (item_meaning M B (Item.Alter c.args.side c.args.at c.args.mask)) a b (outside was) (outside now) new (altered_line c.args.side c.args.at) c.alter.ensures.found refl
                (moves_on a b (outside was) (outside now) (omega arith) (omega arith) (ap (λ (n : ℕ). n + s.syncs) c.alter.ensures.counts.syncs)) (λ x whole. alter_tells M B k.lap m a x refl) fits.explained
                (armed_length s.armed new.armed armed) holds
                (subst (GivesText r _ _) (c.push_altered_line.ensures.bytes ∙ ap (λ (bytes : List ℕ). bytes ++ altered_line c.args.side c.args.at) c.clear.ensures) given.given),
          ));
      leaves = record {
        sits = λ serves. record {
          tells = sits.tells;
          given = sits.given;
          size = c.alter.ensures.counts.size ∙ sits.size;
          power = c.alter.ensures.power;
          runs = refl;
          same_lap = λ is. absurd (cc is);
          laps = sits.laps;
          falls = sits.falls;
          counted = subst (AreCounted k) (sym c.alter.ensures.armed) sits.counted;
          settled = λ is. settled_altered c.place_of.result c.args.mask old new (sits.settled refl) c.alter.ensures.loss;
          synced = λ is. absurd (cc is);
        };
        no_fault = λ serves. c.alter.ensures.faults;
        disk_fault = λ is. absurd (gives_no_disk_fault r _ _ _ given.given is);
        later = given.later;
        write_fault = λ is. on_err_at r _ _ given.cause is;
        machine = refl;
        blocks = λ lap index. refl;
      };
      reads_nothing = λ is. gives_no_read_fault r _ _ _ given.given is;
    }
