use Rattle.gd_base.proofs.PayloadLemmas.Telling.{by_parts}
use Rattle.gd_base.proofs.laws.payloads.by_parts.Goals as goal

pub returns : goal.returns
returns c = by_parts
