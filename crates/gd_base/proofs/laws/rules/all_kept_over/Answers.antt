use Rattle.gd_base.proofs.PreservedLemmas.Preserved.{keeps_all_rules_over}
use Rattle.gd_base.proofs.laws.rules.all_kept_over.Goals as goal

pub returns : goal.returns
returns c = keeps_all_rules_over
