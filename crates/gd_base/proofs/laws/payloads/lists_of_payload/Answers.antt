use Rattle.gd_base.proofs.PayloadLemmas.ListsHad.{has_them, had}
use Rattle.gd_base.proofs.laws.payloads.lists_of_payload.Goals as goal

pub returns-clause-reads : goal.returns-clause-reads
returns-clause-reads c = has_them

pub returns-clause-had : goal.returns-clause-had
returns-clause-had c = had
