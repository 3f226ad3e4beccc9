use Rattle.gd_base.proofs.ExampleLemmas.FullHistory.{full_history}
use Rattle.gd_base.proofs.laws.examples.full_history.Goals as goal

pub returns : goal.returns
returns c = full_history
