use Rattle.gd_base.proofs.ExampleLemmas.Texts.{meters, states, orders, recalls, logs}
use Rattle.gd_base.proofs.laws.examples.texts.Goals as goal

pub returns-clause-states : goal.returns-clause-states
returns-clause-states c = states

pub returns-clause-orders : goal.returns-clause-orders
returns-clause-orders c = orders

pub returns-clause-recalls : goal.returns-clause-recalls
returns-clause-recalls c = recalls

pub returns-clause-meters : goal.returns-clause-meters
returns-clause-meters c = meters

pub returns-clause-logs : goal.returns-clause-logs
returns-clause-logs c = logs
