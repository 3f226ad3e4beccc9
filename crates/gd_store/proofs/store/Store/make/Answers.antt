use Rattle.gd_store.specs.declared.copy.layout.TheConstants.{LAYOUT}
use Rattle.gd_store.proofs.MakingBoots.{moments_boot}
use Rattle.gd_store.proofs.store.Store.make.Goals as goal

pub returns-in-Ok-clause-boots : goal.returns-in-Ok-clause-boots
returns-in-Ok-clause-boots g c = λ synced. moments_boot LAYOUT _ _ (g.D.Disk.state c.args.disk) (g.D.Disk.state c.make_both.new.disk) c.deref.ensures.value (c.make_both.ensures.any_moment synced)

pub returns-in-Err-clause-boots : goal.returns-in-Err-clause-boots
returns-in-Err-clause-boots g c = λ synced. moments_boot LAYOUT _ _ (g.D.Disk.state c.args.disk) (g.D.Disk.state c.make_both.new.disk) c.deref.ensures.value (c.make_both.ensures.any_moment synced)
