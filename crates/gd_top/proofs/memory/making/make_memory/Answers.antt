use Rattle.std.proofs.Common.{◌∙◌, subst, sym, List}
use Rattle.gd_cabinet.specs.Shown.{IsInBoth}
use Rattle.gd_disk.specs.declared.disk.ArmedCut.{ArmedCut}
use Rattle.gd_disk.specs.Runs.{CutsLeft}
use Rattle.gd_top.specs.Run.Offers.{syncs_of_making}
use Rattle.gd_top.proofs.ItemLemmas.Images.{settled, settled_after, still}
use Rattle.gd_top.proofs.memory.making.make_memory.Goals as goal

pub returns-in-Ok-clause-made : goal.returns-in-Ok-clause-made
returns-in-Ok-clause-made g c =
    let parts = c.args.parts in
    let old = g.L.Disk.state parts.disk in
    let made = g.L.Disk.state c.in-Ok.made.disk in
    let off = g.L.Disk.state c.power_off.new.self in
    let h = c.in-Ok.ensures.made in
    record {
      made = record {
        size = c.power_off.ensures.counts.size ∙ h.size;
        both = still (g.C.Core.meaning parts.core) (IsInBoth (g.C.Core.meaning parts.core) (g.C.Core.view parts.core)) made off h.both c.power_off.ensures.loss;
        spelled = h.spelled;
        run = record {
          made = c.power_off.ensures.counts.syncs ∙ h.run.made;
          left = subst (λ (cuts : List ArmedCut). CutsLeft syncs_of_making old.armed cuts) (sym c.power_off.ensures.armed) h.run.left;
          no_fault = c.power_off.ensures.faults ∙ h.run.no_fault;
        };
        found = c.power_off.ensures.found ∙ h.found;
      };
      is_off = c.power_off.ensures.power;
      settled = settled_after made off (settled made c.in-Ok.ensures.synced) c.power_off.ensures.loss;
    }
