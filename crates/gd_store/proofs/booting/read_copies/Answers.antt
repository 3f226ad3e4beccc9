use Rattle.std.proofs.Common.{◌≡◌, subst, ◌+◌, ◌*◌, ◌-◌, ℕ, List, length, take, drop, arith}
use Rattle.gd_store.specs.Copy.{latest_copy, stored_payload, copy_len}
use Rattle.gd_store.specs.Choice.{choice_meaning}
use Rattle.gd_store.proofs.Pages.{slice_payload}
use Rattle.gd_disk.proofs.WholeRuns.{of_read, run_on, run_fails, run_gives}
use Rattle.gd_disk.specs.declared.lengths.TheConstants.{DIGEST_LEN, FRAME_LEN}
use Rattle.gd_store.proofs.booting.read_copies.Goals as goal

pub returns-clause-choice : goal.returns-clause-choice
returns-clause-choice g c =
    let l = c.args.layout in
    let first = FRAME_LEN + DIGEST_LEN * l.pages in
    let a = c.read.new.into in
    let b = c.read-2.new.into in
    let s = c.state-state_a.result in
    let t = c.state-state_b.result in
    let r = c.choose-choice.result in
    let long_a : length a ≡ copy_len l.pages = omega (arith, c.read.auto.into, c.requires.a_len) in
    let long_b : length b ≡ copy_len l.pages = omega (arith, c.read-2.auto.into, c.requires.b_len) in
    subst (λ (p : List ℕ). choice_meaning r p (stored_payload l b) ≡ latest_copy s t p (stored_payload l b)) (slice_payload l a long_a)
    (subst (λ (q : List ℕ). choice_meaning r (take (length a - first) (drop first a)) q ≡ latest_copy s t (take (length a - first) (drop first a)) q) (slice_payload l b long_b) c.choose-choice.ensures)

pub returns-in_err-read-clause-run : goal.returns-in_err-read-clause-run
returns-in_err-read-clause-run g c =
    let old = g.D.Disk.state c.args.disk.now in
    let new = g.D.Disk.state c.read.new.self in
    run_fails 0 0 _ c.from_residual.result old new c.from_residual.ensures.0 (omega arith) (of_read _ old new c.read.ensures.syncs c.read.ensures.armed c.in_err-read.ensures.fault c.read.ensures.no_fault c.in_err-read.ensures.answer)

pub returns-in_err-read-2-clause-run : goal.returns-in_err-read-2-clause-run
returns-in_err-read-2-clause-run g c =
    let old = g.D.Disk.state c.args.disk.now in
    let mid = g.D.Disk.state c.read.new.self in
    let new = g.D.Disk.state c.read-2.new.self in
    run_fails 0 0 _ c.from_residual-in_err-read-2.result old new c.from_residual-in_err-read-2.ensures.0 (omega arith) (run_on 0 0 _ old mid new c.in_ok-read.ensures.answer.was_on c.in_ok-read.ensures.answer.stays_on
    (of_read _ old mid c.read.ensures.syncs c.read.ensures.armed c.in_ok-read.ensures.fault c.read.ensures.no_fault c.in_ok-read.ensures.answer).whole
    (of_read _ mid new c.read-2.ensures.syncs c.read-2.ensures.armed c.in_err-read-2.ensures.fault c.read-2.ensures.no_fault c.in_err-read-2.ensures.answer))

pub returns-clause-run : goal.returns-clause-run
returns-clause-run g c =
    let old = g.D.Disk.state c.args.disk.now in
    let mid = g.D.Disk.state c.read.new.self in
    let new = g.D.Disk.state c.read-2.new.self in
    run_gives 0 _ _ old new (run_on 0 0 _ old mid new c.in_ok-read.ensures.answer.was_on c.in_ok-read.ensures.answer.stays_on
    (of_read _ old mid c.read.ensures.syncs c.read.ensures.armed c.in_ok-read.ensures.fault c.read.ensures.no_fault c.in_ok-read.ensures.answer).whole
    (of_read _ mid new c.read-2.ensures.syncs c.read-2.ensures.armed c.in_ok-read-2.ensures.fault c.read-2.ensures.no_fault c.in_ok-read-2.ensures.answer))
