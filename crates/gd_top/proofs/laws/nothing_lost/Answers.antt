use Rattle.gd_machine.specs.Meaning.{the_machine}
use Rattle.gd_top.proofs.RunLemmas.Answered as answers
use Rattle.gd_top.proofs.RunLemmas.Stays as law
use Rattle.gd_top.proofs.laws.nothing_lost.Goals as goal

pub returns-clause-stays : goal.returns-clause-stays
returns-clause-stays c = λ setup blocks. law.nothing_lost (the_machine setup) blocks

pub returns-clause-acknowledged : goal.returns-clause-acknowledged
returns-clause-acknowledged c = λ setup blocks. answers.acknowledged (the_machine setup) blocks
