use Rattle.gd_base.proofs.PreservedLemmas.Preserved.{keeps_all_rules}
use Rattle.gd_base.proofs.laws.rules.all_kept.Goals as goal

pub returns : goal.returns
returns c = keeps_all_rules
