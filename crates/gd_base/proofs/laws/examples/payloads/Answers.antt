use Rattle.gd_base.proofs.ExampleLemmas.Payloads.{lengths, possible}
use Rattle.gd_base.proofs.laws.examples.payloads.Goals as goal

pub returns-clause-lengths : goal.returns-clause-lengths
returns-clause-lengths c = lengths

pub returns-clause-possible : goal.returns-clause-possible
returns-clause-possible c = possible
