use Rattle.gd_base.proofs.PayloadLemmas.Telling.{is_spelling}
use Rattle.gd_base.proofs.laws.payloads.is_spelling.Goals as goal

pub returns : goal.returns
returns c = is_spelling
