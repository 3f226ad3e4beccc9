use Rattle.gd_disk.proofs.WholeRuns.{of_write, no_run}
use Rattle.gd_store.proofs.PageMoments.{seen_same}
use Rattle.gd_store.proofs.copy.changing.write_page.Goals as goal

pub returns-then-is_changed-clause-run : goal.returns-then-is_changed-clause-run
returns-then-is_changed-clause-run g c = of_write c.write.result (g.D.Disk.state c.args.disk.now) (g.D.Disk.state c.write.new.self) c.write.ensures.syncs c.write.ensures.cuts c.write.ensures.answer

pub returns-clause-seen : goal.returns-clause-seen
returns-clause-seen g c = seen_same c.args.at c.args.page.now (g.D.Disk.state c.args.disk.now).seen (c.requires.stands c.if-is_changed.false)

pub returns-clause-run : goal.returns-clause-run
returns-clause-run g c = no_run _ (g.D.Disk.state c.args.disk.now)
