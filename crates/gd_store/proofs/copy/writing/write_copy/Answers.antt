use Rattle.std.proofs.Common.{◌≡◌, ◌∷◌, ◌∙◌, ℕ, List, length, ap, arith, Option}
use Rattle.std.proofs.lemmas.Result.{on_ok_weaker}
use Rattle.gd_disk.specs.Disk.{seen_with_bytes}
use Rattle.gd_store.proofs.CopyMoments.{seen_over, moments_shutting, moments_copy}
use Rattle.gd_disk.proofs.WholeRuns.{run_on}
use Rattle.gd_store.proofs.copy.writing.write_copy.Goals as goal

pub returns-in_err-shut-clause-any_moment : goal.returns-in_err-shut-clause-any_moment
returns-in_err-shut-clause-any_moment g c = moments_shutting c.args.at c.args.body.now _ _ c.shut.ensures.any_moment

pub returns-clause-seen : goal.returns-clause-seen
returns-clause-seen g c = on_ok_weaker c.write_shut.result
    (λ seen.
    seen
    ∙ ap (λ (s : Option (List ℕ)). seen_with_bytes c.args.at (0xA5 ∷ c.args.body.now) s) c.in_ok-shut.ensures.seen
    ∙ seen_over c.args.at c.args.body.now (g.D.Disk.state c.args.disk.now).seen c.args.gate (λ d is. let long : length d ≡ (g.D.Disk.state c.args.disk.now).size = (g.D.Disk.state c.args.disk.now).whole d is in omega (arith, long, c.requires.within)))
    c.write_shut.ensures.seen

pub returns-clause-any_moment : goal.returns-clause-any_moment
returns-clause-any_moment g c =
    moments_copy c.args.at c.args.body.now _ _ c.shut.ensures.any_moment _ c.in_ok-shut.ensures.synced c.in_ok-shut.ensures.shut c.write_shut.ensures.any_moment

pub returns-clause-run : goal.returns-clause-run
returns-clause-run g c =
    run_on 1 2 c.write_shut.result (g.D.Disk.state c.args.disk.now) (g.D.Disk.state c.shut.new.disk) (g.D.Disk.state c.write_shut.new.disk)
    c.in_ok-shut.ensures.answer.was_on c.in_ok-shut.ensures.answer.stays_on c.in_ok-shut.ensures.run.whole c.write_shut.ensures.run
