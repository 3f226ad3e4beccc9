use Rattle.std.proofs.Common.{◌≡◌, ◌+◌, ◌++◌, ◌∷◌, [], ◌∙◌, ℕ, List, length, arith, ap, Option}
use Rattle.std.proofs.lemmas.Result.{on_ok_weaker}
use Rattle.gd_disk.specs.Disk.{seen_with_bytes}
use Rattle.gd_disk.proofs.WholeRuns.{run_fails, run_on, whole_then}
use Rattle.gd_store.proofs.CopyMoments.{moments_1, moments_2, moments_copy, moments_shutting, seen_over, seen_whole}
use Rattle.gd_store.proofs.PageMoments.{body_torn, pages_body, pages_gate, pages_shut, seen_shut_still}
use Rattle.gd_store.proofs.copy.changing.write_changes.Goals as goal

pub returns-in_err-shut-clause-any_moment : goal.returns-in_err-shut-clause-any_moment
returns-in_err-shut-clause-any_moment g c = moments_shutting c.args.at (c.args.front.now ++ c.args.payload.now) _ _ c.shut.ensures.any_moment

pub returns-in_err-shut-clause-pages : goal.returns-in_err-shut-clause-pages
returns-in_err-shut-clause-pages g c = pages_shut c.args.at c.args.front.now c.args.payload.now c.args.changed.now (g.D.Disk.state c.args.disk.now) (g.D.Disk.state c.shut.new.disk) c.shut.ensures.any_moment

pub write_body-requires-clause-stand : goal.write_body-requires-clause-stand
write_body-requires-clause-stand g c =
    let old = g.D.Disk.state c.args.disk.now in
    seen_shut_still c.args.at old.seen (g.D.Disk.state c.shut.new.disk).seen (c.args.at + 1 + length c.args.front.now) c.args.changed.now c.args.payload.now c.in_ok-shut.ensures.seen
    (λ d is. let long : length d ≡ old.size = old.whole d is in omega (arith, long, c.requires.within)) (omega arith) c.requires.stand

pub returns-in_err-write_body-clause-any_moment : goal.returns-in_err-write_body-clause-any_moment
returns-in_err-write_body-clause-any_moment g c =
    let body = c.args.front.now ++ c.args.payload.now in
    let old = g.D.Disk.state c.args.disk.now in
    let s1 = g.D.Disk.state c.shut.new.disk in
    let s2 = g.D.Disk.state c.write_body.new.disk in
    moments_copy c.args.at body old s1 c.shut.ensures.any_moment s2 c.in_ok-shut.ensures.synced c.in_ok-shut.ensures.shut
    (moments_1 c.args.at body s1 s2 c.in_ok-shut.ensures.synced c.in_ok-shut.ensures.shut (body_torn (c.args.at + 1) (length body) (c.args.at + 1 + length c.args.front.now) c.args.changed.now s1 s2 c.write_body.ensures.any_moment))

pub returns-in_err-write_body-clause-pages : goal.returns-in_err-write_body-clause-pages
returns-in_err-write_body-clause-pages g c =
    let old = g.D.Disk.state c.args.disk.now in
    let s1 = g.D.Disk.state c.shut.new.disk in
    pages_body c.args.at c.args.front.now c.args.payload.now c.args.changed.now old s1 (g.D.Disk.state c.write_body.new.disk) c.shut.ensures.any_moment c.write_body.ensures.any_moment

pub returns-in_err-write_body-clause-run : goal.returns-in_err-write_body-clause-run
returns-in_err-write_body-clause-run g c =
    let old = g.D.Disk.state c.args.disk.now in
    let s1 = g.D.Disk.state c.shut.new.disk in
    let s2 = g.D.Disk.state c.write_body.new.disk in
    run_fails 2 3 _ c.from_residual-in_err-write_body.result old s2 c.from_residual-in_err-write_body.ensures.0 (omega arith) (run_on 1 1 _ old s1 s2 c.in_ok-shut.ensures.answer.was_on c.in_ok-shut.ensures.answer.stays_on c.in_ok-shut.ensures.run.whole c.in_err-write_body.ensures.run)

pub returns-clause-seen : goal.returns-clause-seen
returns-clause-seen g c =
    let body = c.args.front.now ++ c.args.payload.now in
    let at = c.args.at in
    let old = g.D.Disk.state c.args.disk.now in
    let s1 = g.D.Disk.state c.shut.new.disk in
    on_ok_weaker c.write_synced.result
    (λ opened.
    opened
    ∙ ap (λ (s : Option (List ℕ)). seen_with_bytes at (0xA5 ∷ []) s) c.in_ok-write_body.ensures.seen
    ∙ seen_whole at body s1.seen (λ d is. let long : length d ≡ s1.size = s1.whole d is in let same : s1.size ≡ old.size = c.shut.ensures.answer.size in omega (arith, long, same, c.requires.within))
    ∙ ap (λ (s : Option (List ℕ)). seen_with_bytes at (0xA5 ∷ body) s) c.in_ok-shut.ensures.seen
    ∙ seen_over at body old.seen 0xA5 (λ d is. let long : length d ≡ old.size = old.whole d is in omega (arith, long, c.requires.within)))
    c.write_synced.ensures.seen

pub returns-clause-any_moment : goal.returns-clause-any_moment
returns-clause-any_moment g c =
    let body = c.args.front.now ++ c.args.payload.now in
    let at = c.args.at in
    let old = g.D.Disk.state c.args.disk.now in
    let s1 = g.D.Disk.state c.shut.new.disk in
    let s2 = g.D.Disk.state c.write_body.new.disk in
    let s3 = g.D.Disk.state c.write_synced.new.disk in
    let same : s1.size ≡ old.size = c.shut.ensures.answer.size in
    moments_copy at body old s1 c.shut.ensures.any_moment s3 c.in_ok-shut.ensures.synced c.in_ok-shut.ensures.shut
    (moments_2 at body s1 s2 c.in_ok-shut.ensures.synced c.in_ok-shut.ensures.shut (body_torn (at + 1) (length body) (at + 1 + length c.args.front.now) c.args.changed.now s1 s2 c.write_body.ensures.any_moment) s3
    (omega (arith, same, c.requires.within)) c.in_ok-write_body.ensures.synced c.in_ok-write_body.ensures.seen c.write_synced.ensures.any_moment)

pub returns-clause-pages : goal.returns-clause-pages
returns-clause-pages g c =
    let old = g.D.Disk.state c.args.disk.now in
    let s1 = g.D.Disk.state c.shut.new.disk in
    pages_gate c.args.at c.args.front.now c.args.payload.now c.args.changed.now old s1 (g.D.Disk.state c.write_body.new.disk) (g.D.Disk.state c.write_synced.new.disk) c.shut.ensures.any_moment c.write_body.ensures.any_moment c.write_synced.ensures.any_moment

pub returns-clause-run : goal.returns-clause-run
returns-clause-run g c =
    let old = g.D.Disk.state c.args.disk.now in
    let s1 = g.D.Disk.state c.shut.new.disk in
    let s2 = g.D.Disk.state c.write_body.new.disk in
    run_on 2 1 c.write_synced.result old s2 (g.D.Disk.state c.write_synced.new.disk) c.in_ok-shut.ensures.answer.was_on c.in_ok-write_body.ensures.answer.stays_on
    (whole_then 1 1 old s1 s2 c.in_ok-shut.ensures.run.whole c.in_ok-write_body.ensures.run.whole) c.write_synced.ensures.run
