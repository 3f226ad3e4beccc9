use Rattle.std.proofs.Common.{◌≡◌, ◌∷◌, [], ◌∙◌, ℕ, List, length, ap, arith, Option}
use Rattle.std.proofs.lemmas.Result.{on_ok_weaker}
use Rattle.gd_disk.specs.Disk.{seen_with_bytes}
use Rattle.gd_store.proofs.CopyMoments.{seen_whole, moments_1, moments_2}
use Rattle.gd_disk.proofs.WholeRuns.{run_on}
use Rattle.gd_store.proofs.copy.writing.write_shut.Goals as goal

pub returns-in_err-write_synced-clause-any_moment : goal.returns-in_err-write_synced-clause-any_moment
returns-in_err-write_synced-clause-any_moment g c = moments_1 c.args.at c.args.body.now _ _ c.requires.synced c.requires.shut c.write_synced.ensures.any_moment

pub returns-clause-seen : goal.returns-clause-seen
returns-clause-seen g c = on_ok_weaker c.write_synced-2.result
    (λ opened.
    opened
    ∙ ap (λ (s : Option (List ℕ)). seen_with_bytes c.args.at (0xA5 ∷ []) s) c.in_ok-write_synced.ensures.seen
    ∙ seen_whole c.args.at c.args.body.now (g.D.Disk.state c.args.disk.now).seen (λ d is. let long : length d ≡ (g.D.Disk.state c.args.disk.now).size = (g.D.Disk.state c.args.disk.now).whole d is in omega (arith, long, c.requires.within)))
    c.write_synced-2.ensures.seen

pub returns-clause-any_moment : goal.returns-clause-any_moment
returns-clause-any_moment g c =
    moments_2 c.args.at c.args.body.now _ _ c.requires.synced c.requires.shut c.write_synced.ensures.any_moment _ c.requires.within
    c.in_ok-write_synced.ensures.synced c.in_ok-write_synced.ensures.seen c.write_synced-2.ensures.any_moment

pub returns-clause-run : goal.returns-clause-run
returns-clause-run g c =
    run_on 1 1 c.write_synced-2.result (g.D.Disk.state c.args.disk.now) (g.D.Disk.state c.write_synced.new.disk) (g.D.Disk.state c.write_synced-2.new.disk)
    c.in_ok-write_synced.ensures.answer.was_on c.in_ok-write_synced.ensures.answer.stays_on c.in_ok-write_synced.ensures.run.whole c.write_synced-2.ensures.run
