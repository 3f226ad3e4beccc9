use Rattle.gd_base.proofs.BooksLemmas.Indexes.{moves, rise_strictly, none_is_zero}
use Rattle.gd_base.proofs.laws.indexes.no_block_twice.Goals as goal

pub returns-clause-step : goal.returns-clause-step
returns-clause-step c = moves

pub returns-clause-rise : goal.returns-clause-rise
returns-clause-rise c = rise_strictly

pub returns-clause-none_is_zero : goal.returns-clause-none_is_zero
returns-clause-none_is_zero c = none_is_zero
