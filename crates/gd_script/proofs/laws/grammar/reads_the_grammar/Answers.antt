use Rattle.gd_script.proofs.WholeLines.{line_read, line_said}
use Rattle.gd_script.proofs.laws.grammar.reads_the_grammar.Goals as goal

pub returns : goal.returns
returns c = λ line item. (line_said line item, line_read line item)
