use Rattle.gd_base.proofs.AnswerLemmas.Answer.{start_taken, start_undrawn}
use Rattle.gd_base.proofs.laws.starts.always_taken.Goals as goal

pub returns-clause-taken : goal.returns-clause-taken
returns-clause-taken c = start_taken

pub returns-clause-undrawn : goal.returns-clause-undrawn
returns-clause-undrawn c = start_undrawn
