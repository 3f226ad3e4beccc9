use Rattle.std.proofs.Common.{◌∙◌, sym}
use Rattle.gd_script.proofs.SplitLemmas.{at_space, no_space}
use Rattle.gd_script.proofs.words.split_first.Goals as goal

pub returns-in-None : goal.returns-in-None
returns-in-None c = no_space _ (sym c.first_space.ensures ∙ c.in-None.is)

pub returns-in-Some : goal.returns-in-Some
returns-in-Some c = at_space _ _ (sym c.first_space.ensures ∙ c.in-Some.is)
