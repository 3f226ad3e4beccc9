-- The view that moves entry by entry is the view of the whole history.
use Rattle.gd_base.specs.Laws.WholeHistory.{IsViewEnough, IsWholeHistory, AreThemselves}
use Rattle.gd_base.proofs.PayloadLemmas.Itself.{possible-itself}
use Rattle.gd_base.proofs.HistoryLemmas.OneStep.{view_after-with_entry}
use Rattle.gd_base.proofs.HistoryLemmas.ViewOver.{view_over-is, empty-itself}

pub is_view_enough : IsViewEnough
is_view_enough = view_after-with_entry

pub is_whole_history : IsWholeHistory
is_whole_history = view_over-is

pub are_themselves : AreThemselves
are_themselves = (possible-itself, empty-itself)
