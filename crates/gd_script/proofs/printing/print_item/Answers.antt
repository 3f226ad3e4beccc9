use Rattle.gd_script.proofs.WholeLines.{read_text}
use Rattle.gd_script.proofs.printing.print_item.Goals as goal

pub returns-clause-again : goal.returns-clause-again
returns-clause-again c = read_text _ c.requires.grammar
