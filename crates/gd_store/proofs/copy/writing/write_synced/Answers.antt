use Rattle.std.proofs.Common.{arith}
use Rattle.gd_disk.proofs.WholeRuns.{of_write, of_sync, run_on, run_fails}
use Rattle.gd_store.proofs.copy.writing.write_synced.Goals as goal

pub returns-in_err-write-clause-run : goal.returns-in_err-write-clause-run
returns-in_err-write-clause-run g c =
    let old = g.D.Disk.state c.args.disk.now in
    let new = g.D.Disk.state c.write.new.self in
    run_fails 0 1 _ c.from_residual.result old new c.from_residual.ensures.0 (omega arith) (of_write _ old new c.write.ensures.syncs c.in_err-write.ensures.cuts c.in_err-write.ensures.answer)

pub returns-clause-run : goal.returns-clause-run
returns-clause-run g c =
    let old = g.D.Disk.state c.args.disk.now in
    let mid = g.D.Disk.state c.write.new.self in
    let new = g.D.Disk.state c.sync.new.self in
    run_on 0 1 c.sync.result old mid new c.in_ok-write.ensures.answer.was_on c.in_ok-write.ensures.answer.stays_on
    (of_write _ old mid c.write.ensures.syncs c.in_ok-write.ensures.cuts c.in_ok-write.ensures.answer).whole
    (of_sync c.sync.result mid new c.sync.ensures.syncs c.sync.ensures.no_sync c.sync.ensures.cuts c.sync.ensures.answer)
