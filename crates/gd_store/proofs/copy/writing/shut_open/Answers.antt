use Rattle.gd_disk.proofs.WholeRuns.{of_write, no_run}
use Rattle.gd_store.proofs.copy.writing.shut_open.Goals as goal

pub returns-then-gate-eq-OPEN-clause-run : goal.returns-then-gate-eq-OPEN-clause-run
returns-then-gate-eq-OPEN-clause-run g c = of_write c.write.result (g.D.Disk.state c.args.disk.now) (g.D.Disk.state c.write.new.self) c.write.ensures.syncs c.write.ensures.cuts c.write.ensures.answer

pub returns-clause-run : goal.returns-clause-run
returns-clause-run g c = no_run _ (g.D.Disk.state c.args.disk.now)
