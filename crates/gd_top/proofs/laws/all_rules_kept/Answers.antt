use Rattle.gd_top.proofs.RulesKept.{spells_each}
use Rattle.gd_top.proofs.laws.all_rules_kept.Goals as goal

pub returns : goal.returns
returns c = spells_each c.args.setup.now c.empty_is_whole.ensures
