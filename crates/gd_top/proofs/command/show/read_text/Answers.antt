use Rattle.std.proofs.Common.{◌≡◌, ◌++◌, ◌∙◌, ap, subst, refl, ℕ, List}
use Rattle.gd_base.specs.Judging.Machine.{Machine}
use Rattle.gd_base.specs.Histories.View.{View}
use Rattle.gd_cabinet.proofs.Showing.{told_differs, told_maps, told_view}
use Rattle.gd_cabinet.specs.Shown.{shows}
use Rattle.gd_base.specs.Payloads.Spelled.{Foreign}
use Rattle.gd_image.specs.Words.{platform_setup, platform_view}
use Rattle.gd_machine.specs.Meaning.{the_machine}
use Rattle.gd_store.specs.Copy.{found_in}
use Rattle.gd_store.specs.Room.{room_payload}
use Rattle.gd_store.specs.declared.copy.layout.TheConstants.{LAYOUT}
use Rattle.gd_top.specs.Report.Lines.{differs_line, locked_line}
use Rattle.gd_top.proofs.ImageLemmas.{told_unreadable}
use Rattle.gd_top.proofs.command.show.read_text.Goals as goal

pub returns-in-Read : goal.returns-in-Read
returns-in-Read g c =
    let M = the_machine (platform_setup c.args.core) in
    let v = platform_view c.load_at.new.core in
    let seen = (g.D.Disk.state c.args.disk.now).seen in (
      v,
      subst (λ (K : Machine View). c.show.new.into.bytes ≡ K.text c.args.what v) c.load_at.ensures.same c.show.ensures,
      told_view M M c.in-Ready.found c.in-Ready.sequence c.payload.result.now (room_payload c.boot.new.room) c.load_at.result v seen seen refl refl
          c.payload.ensures.value c.load_at.ensures.answer c.in-Read.is c.load_at.ensures.view c.in-Ready.ensures.what,
      record { unwritten = record { images = c.boot.ensures.any_moment; syncs = c.boot.ensures.syncs }; seen = c.in-Ready.ensures.seen },
    )

pub returns-in-Unreadable : goal.returns-in-Unreadable
returns-in-Unreadable g c =
    let M = the_machine (platform_setup c.args.core) in (
      c.push_locked_line-in-Unreadable.ensures.bytes ∙ ap (λ (b : List ℕ). b ++ locked_line) c.clear.ensures,
      told_unreadable M c.in-Ready.found c.in-Ready.sequence c.payload.result.now (room_payload c.boot.new.room) c.load_at.result (g.D.Disk.state c.args.disk.now).seen
          c.payload.ensures.value c.load_at.ensures.answer c.in-Unreadable.is c.in-Ready.ensures.what,
      record { unwritten = record { images = c.boot.ensures.any_moment; syncs = c.boot.ensures.syncs }; seen = c.in-Ready.ensures.seen },
    )

pub returns : goal.returns
returns g c =
    let M = the_machine (platform_setup c.args.core) in
    let seen = (g.D.Disk.state c.args.disk.now).seen in
    let kept = c.in-Differs.kept in (
      kept,
      c.push_differs_line.ensures.bytes ∙ ap (λ (b : List ℕ). b ++ differs_line kept c.digest.result.now) c.clear.ensures ∙ ap (λ (d : List ℕ). differs_line kept d) given,
      told_maps seen (λ image. (c.in-Ready.found ≡ found_in LAYOUT image) × (shows M image ≡ Foreign kept)) (λ image. shows M image ≡ Foreign kept) (λ image is. is.1)
          (told_differs M c.in-Ready.found c.in-Ready.sequence c.payload.result.now (room_payload c.boot.new.room) kept c.load_at.result seen
          c.payload.ensures.value c.load_at.ensures.answer c.in-Differs.is c.in-Ready.ensures.what),
      record { unwritten = record { images = c.boot.ensures.any_moment; syncs = c.boot.ensures.syncs }; seen = c.in-Ready.ensures.seen },
    )
  where
    given : c.digest.result.now ≡ (the_machine (platform_setup c.args.core)).digest
    given = subst (λ (K : Machine View). c.digest.result.now ≡ K.digest) c.load_at.ensures.same c.digest.ensures
