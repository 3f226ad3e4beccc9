use Rattle.gd_base.proofs.AnswerLemmas.Exact.{exactly}
use Rattle.gd_base.proofs.laws.answers.exact.Goals as goal

pub returns : goal.returns
returns g c = exactly
