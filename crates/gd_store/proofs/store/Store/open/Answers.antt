use Rattle.gd_store.specs.declared.copy.layout.TheConstants.{LAYOUT}
use Rattle.gd_store.proofs.Openings.{kept_boot, reads_keep_boot, still_synced, told_all, by_found, few_syncs}
use Rattle.gd_disk.proofs.WholeRuns.{run_on, run_fails, after_none}
use Rattle.gd_disk.specs.CutRuns.{RunOf}
use Rattle.gd_store.specs.Opening.{repairs_of}
use Rattle.gd_store.specs.Repair.{repair_needed, syncs_of_repair}
use Rattle.std.proofs.Common.{ℕ, Err, ◌+◌, ◌≤◌, arith, refl}
use Rattle.gd_store.proofs.store.Store.open.Goals as goal

pub returns-in-Ok-clause-any_moment : goal.returns-in-Ok-clause-any_moment
returns-in-Ok-clause-any_moment g c =
    let mid = g.D.Disk.state c.boot.new.disk in
    kept_boot LAYOUT (g.D.Disk.state c.args.disk) mid (g.D.Disk.state c.repair.new.disk) c.boot.ensures.any_moment
    c.repair.ensures.any_moment

pub returns-in-Err-clause-any_moment : goal.returns-in-Err-clause-any_moment
returns-in-Err-clause-any_moment g c =
    let mid = g.D.Disk.state c.boot.new.disk in
    kept_boot LAYOUT (g.D.Disk.state c.args.disk) mid (g.D.Disk.state c.repair.new.disk) c.boot.ensures.any_moment
    c.repair.ensures.any_moment

pub repair-requires-clause-synced : goal.repair-requires-clause-synced
repair-requires-clause-synced g c =
    still_synced (g.D.Disk.state c.args.disk) (g.D.Disk.state c.boot.new.disk) c.requires.openable c.in-Ready.ensures.answer.was_on c.boot.ensures.any_moment c.in-Ready.ensures.seen

pub returns-in-Lost-clause-any_moment : goal.returns-in-Lost-clause-any_moment
returns-in-Lost-clause-any_moment g c = reads_keep_boot LAYOUT (g.D.Disk.state c.args.disk) (g.D.Disk.state c.boot.new.disk) c.boot.ensures.any_moment

pub returns-in-Err-clause-run : goal.returns-in-Err-clause-run
returns-in-Err-clause-run g c =
    let old = g.D.Disk.state c.args.disk in
    let mid = g.D.Disk.state c.boot.new.disk in
    let new = g.D.Disk.state c.repair.new.disk in
    let k = syncs_of_repair (repair_needed c.in-Ready.found) in
    by_found LAYOUT old c.in-Ready.found c.in-Ready.sequence c.boot.new.room.payload.items (λ (n : ℕ). RunOf {T = Unit {0}} {E = Unit {0}} n (Err tt) old new) c.in-Ready.ensures.what
    (run_fails (0 + k) k c.in-Err.field-0 (Err tt) old new refl (omega arith) (run_on 0 k _ old mid new c.in-Ready.ensures.answer.was_on c.in-Ready.ensures.answer.stays_on c.in-Ready.ensures.run.whole c.in-Err.ensures.run))

pub returns-in-Ok-clause-answer_run : goal.returns-in-Ok-clause-answer_run
returns-in-Ok-clause-answer_run g c =
    after_none (syncs_of_repair (repair_needed c.in-Ready.found)) (g.D.Disk.state c.args.disk) (g.D.Disk.state c.boot.new.disk) (g.D.Disk.state c.repair.new.disk) c.in-Ready.ensures.run.whole c.in-Ok.ensures.run.whole

pub returns-in-Err-clause-answer_run : goal.returns-in-Err-clause-answer_run
returns-in-Err-clause-answer_run g c =
    let old = g.D.Disk.state c.args.disk in
    let mid = g.D.Disk.state c.boot.new.disk in
    let new = g.D.Disk.state c.repair.new.disk in
    let k = syncs_of_repair (repair_needed c.in-Ready.found) in
    let few : k ≤ 3 = few_syncs (repair_needed c.in-Ready.found) in
    run_fails (0 + k) 3 c.in-Err.field-0 (Err tt) old new refl (omega (arith, few)) (run_on 0 k _ old mid new c.in-Ready.ensures.answer.was_on c.in-Ready.ensures.answer.stays_on c.in-Ready.ensures.run.whole c.in-Err.ensures.run)

pub returns-in-Off-clause-run : goal.returns-in-Off-clause-run
returns-in-Off-clause-run g c = told_all (g.D.Disk.state c.args.disk).seen _ (λ image.
    run_fails 0 (repairs_of LAYOUT image) tt (Err tt) (g.D.Disk.state c.args.disk) (g.D.Disk.state c.boot.new.disk) refl (omega arith) c.in-Off.ensures.run)
