use Rattle.std.proofs.Common.{◌≡◌, ◌+◌, ◌*◌, ◌∙◌, ℕ, List, length, take, arith, ap, refl, Option}
use Rattle.gd_disk.specs.Disk.{seen_with_bytes}
use Rattle.gd_disk.specs.declared.lengths.TheConstants.{PAGE_LEN}
use Rattle.gd_disk.proofs.Runs.{started}
use Rattle.gd_disk.proofs.WholeRuns.{no_run, whole_then}
use Rattle.gd_store.specs.Changes.{KeepsPages}
use Rattle.gd_store.specs.Copy.{page}
use Rattle.gd_store.specs.Writing.{From}
use Rattle.gd_store.proofs.PageMoments.{answers_then, keeps_refl, length-page, long_pages, no_answer, over_more, page_there, pages_more, seen_next, seen_none, slice_page}
use Rattle.gd_store.proofs.copy.changing.write_pages.Goals as goal

pub loop-i-init : goal.loop-i-init
loop-i-init g c =
    let old = g.D.Disk.state c.args.disk.now in
    record {
      seen = seen_none c.args.at old.seen;
      moments = started old (From old (KeepsPages c.args.at (length c.args.payload.now) c.args.at c.args.changed.now)) (λ i may. (i, may, keeps_refl c.args.at (length c.args.payload.now) c.args.at c.args.changed.now i));
      answer = no_answer old c.requires.on;
      run = (no_run {E = Unit {0}} (tt {0}) old).whole;
      reads = refl;
    }

pub write_page-requires-clause-stands : goal.write_page-requires-clause-stands
write_page-requires-clause-stands g c = λ same.
    let old = g.D.Disk.state c.args.disk.now in
    let is = slice_page c.loop-i.i c.args.payload.now in
    page_there c.args.at c.loop-i.i c.args.changed.now c.args.payload.now _ old.seen (g.D.Disk.state c.loop-i.disk).seen c.loop-i.invariant.seen
    (λ d is_d. let long : length d ≡ old.size = old.whole d is_d in omega (arith, long, c.requires.within)) c.requires.pages c.loop-i-test.true is
    (ap (λ (x : List ℕ). length x) is ∙ length-page c.loop-i.i (length c.args.changed.now) c.args.payload.now c.requires.pages c.loop-i-test.true) c.requires.stand same

pub returns-in_err-write_page-clause-any_moment : goal.returns-in_err-write_page-clause-any_moment
returns-in_err-write_page-clause-any_moment g c =
    over_more c.args.at c.loop-i.i c.args.changed.now c.args.payload.now _ (g.D.Disk.state c.args.disk.now) (g.D.Disk.state c.loop-i.disk) (g.D.Disk.state c.write_page.new.disk)
    (slice_page c.loop-i.i c.args.payload.now) c.requires.pages c.loop-i-test.true c.loop-i.invariant.moments c.write_page.ensures.any_moment

pub loop-i-preserved : goal.loop-i-preserved
loop-i-preserved g c =
    let i = c.loop-i.i in
    let payload = c.args.payload.now in
    let old = g.D.Disk.state c.args.disk.now in
    let mid = g.D.Disk.state c.loop-i.disk in
    let new = g.D.Disk.state c.write_page.new.disk in
    let front_long = long_pages i (length c.args.changed.now) payload c.requires.pages (omega (arith, c.loop-i-test.true)) in
    record {
      seen =
          c.in_ok-write_page.ensures.seen
          ∙ ap (λ (x : List ℕ). seen_with_bytes (c.args.at + PAGE_LEN * i) x mid.seen) (slice_page i payload)
          ∙ ap (λ (s : Option (List ℕ)). seen_with_bytes (c.args.at + PAGE_LEN * i) (page i payload) s) c.loop-i.invariant.seen
          ∙ seen_next c.args.at (c.args.at + PAGE_LEN * i) (take (PAGE_LEN * i) payload) (page i payload) old.seen (omega (arith, front_long))
          (λ d is_d. let long : length d ≡ old.size = old.whole d is_d in omega (arith, long, c.requires.within, c.requires.pages, c.loop-i-test.true, front_long, length-page i (length c.args.changed.now) payload c.requires.pages c.loop-i-test.true))
          ∙ ap (λ (x : List ℕ). seen_with_bytes c.args.at x old.seen) (pages_more i payload);
      moments = over_more c.args.at i c.args.changed.now payload _ old mid new (slice_page i payload) c.requires.pages c.loop-i-test.true c.loop-i.invariant.moments c.write_page.ensures.any_moment;
      answer = answers_then _ old mid new c.loop-i.invariant.answer c.in_ok-write_page.ensures.answer;
      run = whole_then 0 0 old mid new c.loop-i.invariant.run c.in_ok-write_page.ensures.run.whole;
      reads = c.write_page.ensures.reads ∙ c.loop-i.invariant.reads;
    }
