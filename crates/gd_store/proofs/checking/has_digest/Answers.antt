use Rattle.std.proofs.Common.{arith}
use Rattle.gd_disk.proofs.WholeRuns.{of_read, run_fails, run_gives}
use Rattle.gd_store.proofs.checking.has_digest.Goals as goal

pub returns-in_err-read-clause-run : goal.returns-in_err-read-clause-run
returns-in_err-read-clause-run g c =
    let old = g.D.Disk.state c.args.disk.now in
    let new = g.D.Disk.state c.read.new.self in
    run_fails 0 0 _ c.from_residual.result old new c.from_residual.ensures.0 (omega arith) (of_read _ old new c.read.ensures.syncs c.read.ensures.armed c.in_err-read.ensures.fault c.read.ensures.no_fault c.in_err-read.ensures.answer)

pub returns-clause-run : goal.returns-clause-run
returns-clause-run g c =
    let old = g.D.Disk.state c.args.disk.now in
    let new = g.D.Disk.state c.read.new.self in
    run_gives 0 _ _ old new (of_read _ old new c.read.ensures.syncs c.read.ensures.armed c.in_ok-read.ensures.fault c.read.ensures.no_fault c.in_ok-read.ensures.answer)
