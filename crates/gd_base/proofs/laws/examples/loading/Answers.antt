use Rattle.gd_base.proofs.ExampleLemmas.Loading.{are_shown, are_foreign, one_byte, none_spelled}
use Rattle.gd_base.proofs.laws.examples.loading.Goals as goal

pub returns-clause-shown : goal.returns-clause-shown
returns-clause-shown c = are_shown

pub returns-clause-foreign : goal.returns-clause-foreign
returns-clause-foreign c = are_foreign

pub returns-clause-byte : goal.returns-clause-byte
returns-clause-byte c = one_byte

pub returns-clause-none : goal.returns-clause-none
returns-clause-none c = none_spelled
