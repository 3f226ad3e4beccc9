use Rattle.std.proofs.Common.{◌∷◌, ℕ, arith, subst, sym, inl}
use Rattle.std.proofs.lemmas.Result.{on_ok_weaker}
use Rattle.gd_store.specs.Copy.{LiesWithin}
use Rattle.gd_store.proofs.Commit.{opened}
use Rattle.gd_store.proofs.Makings.{made_both}
use Rattle.gd_store.proofs.MakingMoments.{made_a, made_b}
use Rattle.gd_disk.proofs.WholeRuns.{run_on, run_fails, whole_then}
use Rattle.gd_disk.proofs.Runs.{weaker}
use Rattle.gd_store.specs.Making.{AreShutting, AreShuttingAny}
use Rattle.gd_store.proofs.making.make_both.Goals as goal

pub returns-clause-holds : goal.returns-clause-holds
returns-clause-holds g c =
    let l = c.args.layout in
    let s1 = g.D.Disk.state c.shut_both.new.disk in
    let within = subst (λ (n : ℕ). LiesWithin l n) (sym c.shut_both.ensures.answer.size) c.requires.within in
    on_ok_weaker c.write_shut-2.result
    (made_both l 0 c.args.payload.now (0xA5 ∷ c.seal_body.new.body) (omega arith) c.requires.payload (opened l 0 c.args.payload.now c.seal_body.new.body c.seal_body.ensures)
    s1 (g.D.Disk.state c.write_shut.new.disk) (g.D.Disk.state c.write_shut-2.new.disk) within c.write_shut.ensures.answer.size c.in_ok-write_shut.ensures.seen)
    c.write_shut-2.ensures.seen

pub returns-in_err-write_shut-clause-any_moment : goal.returns-in_err-write_shut-clause-any_moment
returns-in_err-write_shut-clause-any_moment g c =
    let l = c.args.layout in
    let body = c.seal_body.new.body in
    λ synced. made_a l c.args.payload.now (0xA5 ∷ body) c.requires.payload (opened l 0 c.args.payload.now body c.seal_body.ensures) c.requires.within.apart
    (AreShutting l) (g.D.Disk.state c.args.disk.now) (g.D.Disk.state c.shut_both.new.disk) (c.shut_both.ensures.any_moment synced)
    (g.D.Disk.state c.write_shut.new.disk) c.in_ok-shut_both.ensures.synced c.in_ok-shut_both.ensures.shut c.write_shut.ensures.any_moment

pub returns-clause-any_moment : goal.returns-clause-any_moment
returns-clause-any_moment g c =
    let l = c.args.layout in
    let body = c.seal_body.new.body in
    λ synced. made_b l c.args.payload.now (0xA5 ∷ body) c.requires.payload (opened l 0 c.args.payload.now body c.seal_body.ensures) c.requires.within.apart
    (AreShutting l) (g.D.Disk.state c.args.disk.now) (g.D.Disk.state c.shut_both.new.disk) (c.shut_both.ensures.any_moment synced)
    (g.D.Disk.state c.write_shut.new.disk) c.in_ok-shut_both.ensures.synced c.in_ok-shut_both.ensures.shut c.write_shut.ensures.any_moment
    (g.D.Disk.state c.write_shut-2.new.disk) (omega (arith, c.shut_both.ensures.answer.size, c.requires.within.within)) c.in_ok-write_shut.ensures.synced c.in_ok-write_shut.ensures.seen c.write_shut-2.ensures.any_moment

pub returns-in_err-shut_both-clause-waiting : goal.returns-in_err-shut_both-clause-waiting
returns-in_err-shut_both-clause-waiting g c =
    let old = g.D.Disk.state c.args.disk.now in
    weaker old (g.D.Disk.state c.shut_both.new.disk) _ _ c.shut_both.ensures.waiting (λ i from. (from.0, from.1, inl from.2))

pub returns-in_err-write_shut-clause-waiting : goal.returns-in_err-write_shut-clause-waiting
returns-in_err-write_shut-clause-waiting g c =
    let l = c.args.layout in
    let body = c.seal_body.new.body in
    made_a l c.args.payload.now (0xA5 ∷ body) c.requires.payload (opened l 0 c.args.payload.now body c.seal_body.ensures) c.requires.within.apart
    (AreShuttingAny l (g.D.Disk.state c.args.disk.now).seen) (g.D.Disk.state c.args.disk.now) (g.D.Disk.state c.shut_both.new.disk) c.shut_both.ensures.waiting
    (g.D.Disk.state c.write_shut.new.disk) c.in_ok-shut_both.ensures.synced c.in_ok-shut_both.ensures.shut c.write_shut.ensures.any_moment

pub returns-clause-waiting : goal.returns-clause-waiting
returns-clause-waiting g c =
    let l = c.args.layout in
    let body = c.seal_body.new.body in
    made_b l c.args.payload.now (0xA5 ∷ body) c.requires.payload (opened l 0 c.args.payload.now body c.seal_body.ensures) c.requires.within.apart
    (AreShuttingAny l (g.D.Disk.state c.args.disk.now).seen) (g.D.Disk.state c.args.disk.now) (g.D.Disk.state c.shut_both.new.disk) c.shut_both.ensures.waiting
    (g.D.Disk.state c.write_shut.new.disk) c.in_ok-shut_both.ensures.synced c.in_ok-shut_both.ensures.shut c.write_shut.ensures.any_moment
    (g.D.Disk.state c.write_shut-2.new.disk) (omega (arith, c.shut_both.ensures.answer.size, c.requires.within.within)) c.in_ok-write_shut.ensures.synced c.in_ok-write_shut.ensures.seen c.write_shut-2.ensures.any_moment

pub returns-in_err-write_shut-clause-run : goal.returns-in_err-write_shut-clause-run
returns-in_err-write_shut-clause-run g c =
    let old = g.D.Disk.state c.args.disk.now in
    let s1 = g.D.Disk.state c.shut_both.new.disk in
    let s2 = g.D.Disk.state c.write_shut.new.disk in
    run_fails 3 5 _ c.from_residual-in_err-write_shut.result old s2 c.from_residual-in_err-write_shut.ensures.0 (omega arith) (run_on 1 2 _ old s1 s2 c.in_ok-shut_both.ensures.answer.was_on c.in_ok-shut_both.ensures.answer.stays_on c.in_ok-shut_both.ensures.run.whole c.in_err-write_shut.ensures.run)

pub returns-clause-run : goal.returns-clause-run
returns-clause-run g c =
    let old = g.D.Disk.state c.args.disk.now in
    let s1 = g.D.Disk.state c.shut_both.new.disk in
    let s2 = g.D.Disk.state c.write_shut.new.disk in
    run_on 3 2 c.write_shut-2.result old s2 (g.D.Disk.state c.write_shut-2.new.disk) c.in_ok-shut_both.ensures.answer.was_on c.in_ok-write_shut.ensures.answer.stays_on
    (whole_then 1 2 old s1 s2 c.in_ok-shut_both.ensures.run.whole c.in_ok-write_shut.ensures.run.whole) c.write_shut-2.ensures.run
