use Rattle.gd_base.proofs.ExampleLemmas.Premises.{premises}
use Rattle.gd_base.proofs.laws.examples.premises.Goals as goal

pub returns : goal.returns
returns c = premises
