use Rattle.gd_store.specs.Store.{store_disk, store_payload, store_sequence}
use Rattle.gd_cabinet.proofs.OneEvent.{commit_moments}
use Rattle.gd_cabinet.proofs.submitting.commit_view.Goals as goal

pub returns-clause-any_moment : goal.returns-clause-any_moment
returns-clause-any_moment g c =
    commit_moments (g.C.Core.meaning c.args.core.now) (store_sequence c.args.store.now) (store_payload c.args.store.now) _ (g.C.Core.view c.args.core.now) (g.D.Disk.state (store_disk c.args.store.now)) (g.D.Disk.state (store_disk c.commit.new.self))
    c.write_image.ensures c.requires.count (c.commit.ensures.any_moment c.requires.runs)
