use Rattle.gd_base.proofs.PayloadLemmas.ListsHad.{has_them}
use Rattle.gd_recall.proofs.recall.Recall.write_image.Goals as goal

pub returns-clause-lists : goal.returns-clause-lists
returns-clause-lists c =
    has_them c.write.new.payload c.args.self.now.lists (record {
      recorded = c.requires.listed;
      plays_kept = c.is_within.ensures.plays;
      events_kept = c.is_within.ensures.events;
      bills_kept = c.is_within.ensures.bills;
      vouchers_kept = c.is_within.ensures.vouchers;
      stand = c.write.ensures.stand;
    })
