use Rattle.gd_script.proofs.WholeLines.{line_is_printable}
use Rattle.gd_script.proofs.laws.grammar.printable_lines.Goals as goal

pub returns : goal.returns
returns c = line_is_printable
