use Rattle.std.proofs.Common.{◌≡◌, ◌+◌, ◌++◌, ◌∙◌, ℕ, List, length, length-append, arith, ap, refl, Option}
use Rattle.std.proofs.lemmas.Result.{on_ok_weaker}
use Rattle.gd_disk.specs.Disk.{seen_with_bytes}
use Rattle.gd_disk.proofs.WholeRuns.{of_write, run_fails}
use Rattle.gd_store.specs.Changes.{KeepsPages}
use Rattle.gd_store.proofs.PageMoments.{body_moment, front_moment, seen_next, seen_still, then_sync}
use Rattle.gd_store.proofs.copy.changing.write_body.Goals as goal

pub returns-in_err-write-clause-any_moment : goal.returns-in_err-write-clause-any_moment
returns-in_err-write-clause-any_moment g c =
    front_moment c.args.at (length c.args.front.now) (length (c.args.front.now ++ c.args.payload.now)) (c.args.at + length c.args.front.now) c.args.changed.now (g.D.Disk.state c.args.disk.now) (g.D.Disk.state c.write.new.self)
    (omega arith) (omega (arith, length-append c.args.front.now c.args.payload.now)) c.write.ensures.loss

pub returns-in_err-write-clause-run : goal.returns-in_err-write-clause-run
returns-in_err-write-clause-run g c =
    let old = g.D.Disk.state c.args.disk.now in
    let new = g.D.Disk.state c.write.new.self in
    run_fails 0 1 _ c.from_residual.result old new c.from_residual.ensures.0 (omega arith) (of_write _ old new c.write.ensures.syncs c.in_err-write.ensures.cuts c.in_err-write.ensures.answer)

pub write_pages-requires-clause-stand : goal.write_pages-requires-clause-stand
write_pages-requires-clause-stand g c =
    let old = g.D.Disk.state c.args.disk.now in
    seen_still c.args.at c.args.front.now old.seen (g.D.Disk.state c.write.new.self).seen (c.args.at + length c.args.front.now) c.args.changed.now c.args.payload.now c.in_ok-write.ensures.seen
    (λ d is. let long : length d ≡ old.size = old.whole d is in omega (arith, long, c.requires.within)) (omega arith) c.requires.stand

pub returns-in_err-write_pages-clause-any_moment : goal.returns-in_err-write_pages-clause-any_moment
returns-in_err-write_pages-clause-any_moment g c =
    let old = g.D.Disk.state c.args.disk.now in
    let mid = g.D.Disk.state c.write.new.self in
    let total = length (c.args.front.now ++ c.args.payload.now) in
    let first = c.args.at + length c.args.front.now in
    body_moment c.args.at (length c.args.front.now) (length c.args.payload.now) total first c.args.changed.now old mid (g.D.Disk.state c.write_pages.new.disk) refl (length-append c.args.front.now c.args.payload.now)
    (front_moment c.args.at (length c.args.front.now) total first c.args.changed.now old mid (omega arith) (omega (arith, length-append c.args.front.now c.args.payload.now)) c.write.ensures.loss) c.write_pages.ensures.any_moment

pub returns-clause-seen : goal.returns-clause-seen
returns-clause-seen g c =
    let old = g.D.Disk.state c.args.disk.now in
    on_ok_weaker c.sync.result
    (λ seen.
    seen ∙ c.in_ok-write_pages.ensures.seen
    ∙ ap (λ (s : Option (List ℕ)). seen_with_bytes (c.args.at + length c.args.front.now) c.args.payload.now s) c.in_ok-write.ensures.seen
    ∙ seen_next c.args.at (c.args.at + length c.args.front.now) c.args.front.now c.args.payload.now old.seen refl (λ d is. let long : length d ≡ old.size = old.whole d is in omega (arith, long, c.requires.within)))
    c.sync.ensures.seen

pub returns-clause-any_moment : goal.returns-clause-any_moment
returns-clause-any_moment g c =
    let old = g.D.Disk.state c.args.disk.now in
    let mid = g.D.Disk.state c.write.new.self in
    let late = g.D.Disk.state c.write_pages.new.disk in
    let total = length (c.args.front.now ++ c.args.payload.now) in
    let first = c.args.at + length c.args.front.now in
    then_sync (KeepsPages c.args.at total first c.args.changed.now) old late (g.D.Disk.state c.sync.new.self)
    (body_moment c.args.at (length c.args.front.now) (length c.args.payload.now) total first c.args.changed.now old mid late refl (length-append c.args.front.now c.args.payload.now)
    (front_moment c.args.at (length c.args.front.now) total first c.args.changed.now old mid (omega arith) (omega (arith, length-append c.args.front.now c.args.payload.now)) c.write.ensures.loss) c.write_pages.ensures.any_moment)
    c.sync.ensures.loss
