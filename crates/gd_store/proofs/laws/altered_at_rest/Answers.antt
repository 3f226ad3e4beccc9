use Rattle.gd_store.proofs.Alterations.{altered_is_bad, cancelled, unaltered}
use Rattle.gd_store.proofs.MaskedBoots.{masked_boots}
use Rattle.gd_store.proofs.laws.altered_at_rest.Goals as goal

pub returns-clause-boots : goal.returns-clause-boots
returns-clause-boots c = masked_boots

pub returns-clause-cancelled : goal.returns-clause-cancelled
returns-clause-cancelled c = cancelled

pub returns-clause-bad : goal.returns-clause-bad
returns-clause-bad c = altered_is_bad

pub returns-clause-alone : goal.returns-clause-alone
returns-clause-alone c = unaltered
