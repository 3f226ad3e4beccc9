use Rattle.gd_script.proofs.GeneratedItems.{generated_cut, generated_kind}
use Rattle.gd_script.proofs.laws.generated.soak_items.Goals as goal

pub returns-clause-kinds : goal.returns-clause-kinds
returns-clause-kinds c = generated_kind

pub returns-clause-cuts : goal.returns-clause-cuts
returns-clause-cuts c = generated_cut
