use Rattle.gd_script.proofs.WholeLines.{read_text, text_says, text_short}
use Rattle.gd_script.proofs.laws.grammar.reads_back.Goals as goal

pub returns-clause-short : goal.returns-clause-short
returns-clause-short c = text_short

pub returns-clause-says : goal.returns-clause-says
returns-clause-says c = text_says

pub returns-clause-again : goal.returns-clause-again
returns-clause-again c = read_text
