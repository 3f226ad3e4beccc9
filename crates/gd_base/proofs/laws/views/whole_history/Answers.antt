use Rattle.gd_base.proofs.HistoryLemmas.WholeHistory.{is_view_enough, is_whole_history, are_themselves}
use Rattle.gd_base.proofs.laws.views.whole_history.Goals as goal

pub returns-clause-enough : goal.returns-clause-enough
returns-clause-enough c = is_view_enough

pub returns-clause-whole : goal.returns-clause-whole
returns-clause-whole c = is_whole_history

pub returns-clause-itself : goal.returns-clause-itself
returns-clause-itself c = are_themselves
