use Rattle.gd_base.proofs.PayloadLemmas.OneSpelled.{has_one_view, spells_one_thing}
use Rattle.gd_base.proofs.laws.payloads.one_view.Goals as goal

pub returns-clause-view : goal.returns-clause-view
returns-clause-view c = has_one_view

pub returns-clause-spelled : goal.returns-clause-spelled
returns-clause-spelled c = spells_one_thing
