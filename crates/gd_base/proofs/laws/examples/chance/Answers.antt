use Rattle.gd_base.proofs.ExampleLemmas.Chance.{least_words, windows, hands}
use Rattle.gd_base.proofs.laws.examples.chance.Goals as goal

pub returns-clause-words : goal.returns-clause-words
returns-clause-words c = least_words

pub returns-clause-windows : goal.returns-clause-windows
returns-clause-windows c = windows

pub returns-clause-hands : goal.returns-clause-hands
returns-clause-hands c = hands
