use Rattle.gd_base.proofs.PayloadLemmas.ViewBack.{view_back}
use Rattle.gd_base.proofs.laws.payloads.reads_back.Goals as goal

pub returns : goal.returns
returns c = view_back
