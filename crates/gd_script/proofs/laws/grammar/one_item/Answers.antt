use Rattle.gd_script.proofs.WholeLines.{line_read}
use Rattle.gd_script.proofs.laws.grammar.one_item.Goals as goal

pub returns : goal.returns
returns c = λ line a b f g. let x = line_read line a f in let y = line_read line b g in cc
