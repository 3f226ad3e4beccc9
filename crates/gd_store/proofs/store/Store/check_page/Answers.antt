use Rattle.std.proofs.Common.{rules, ◌∙◌, inr, sym}
use Rattle.gd_store.proofs.Openings.{still_synced}
use Rattle.gd_store.proofs.PagesKept.{digest_of}
use Rattle.gd_store.proofs.store.Store.check_page.Goals as goal

pub invariant_of-self-in-Ok-1 : goal.invariant_of-self-in-Ok-1
invariant_of-self-in-Ok-1 g c = record {
  size = search rules;
  synced = λ runs. still_synced (g.D.Disk.state c.args.self.now.disk) (g.D.Disk.state c.check_both.new.disk) (inr (c.args.self.now.synced runs)) c.in-Ok.ensures.answer.was_on c.check_both.ensures.any_moment c.in-Ok.ensures.seen;
  holds = λ runs image is. c.args.self.now.holds runs image (sym c.in-Ok.ensures.seen ∙ is);
  is_off = search rules;
  are_kept = search rules;
}

pub returns-in-Ok-clause-told : goal.returns-in-Ok-clause-told
returns-in-Ok-clause-told g c =
    c.in-Ok.ensures.told c.args.self.now.room.payload.items
    (c.copy_from_slice.ensures.after ∙ digest_of 32 c.args.page c.args.self.now.room.payload.items c.args.self.now.kept c.requires.page c.args.self.now.are_kept)
