use Rattle.gd_machine.specs.Meaning.{the_machine}
use Rattle.gd_top.proofs.RunLemmas.Legal as law
use Rattle.gd_top.proofs.RunLemmas.Stays as stays
use Rattle.gd_top.proofs.laws.one_legal_history.Goals as goal

pub returns-clause-trials : goal.returns-clause-trials
returns-clause-trials c = λ setup blocks. law.one_legal_history (the_machine setup) blocks

pub returns-clause-images : goal.returns-clause-images
returns-clause-images c = λ setup blocks. law.one_legal_history_over_images (the_machine setup) blocks

pub returns-clause-begins : goal.returns-clause-begins
returns-clause-begins c = λ setup blocks. stays.begins_empty (the_machine setup) blocks
